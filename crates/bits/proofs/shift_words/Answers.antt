-- `bits::shift_words` meets its contract: room has the bits of the first i words. Assumes nothing.
use mathlib.Core.Path.{◌≡◌, ◌∙◌}
use Prim.Native.Nat.{◌+◌, ◌*◌, ◌-◌, ◌/◌, ◌%◌, ◌^◌}
use native.Mathlib.Omega.{arith}
use lib.Count.{ones-le}
use lib.Pow.{pow_pos}
use Rattle.bits.specs.Bits.{digits, bits_at}
use Rattle.bits.proofs.Laws.{below_of_lem}
use Rattle.bits.proofs.Steps.{one_shl_word, word_lt, copy_none, zeros_none, shift_is, step_word, count_more}
use Rattle.bits.proofs.shift_words.Goals as goal

pub loop-i-init : goal.loop-i-init
loop-i-init c =
    let z = c.args in (
      copy_none (8 * z.d) (8 * z.q + z.j) z.room.now z.body.now (below_of_lem 256 z.room.now (λ k. (c.slice_known-1.given k).fits)),
      zeros_none (8 * z.q + z.j) z.body.now,
      omega arith,
    )

pub nonzero_rem-lo : goal.nonzero_rem-lo
nonzero_rem-lo c = omega (arith, one_shl_word (8 - c.args.j) (omega arith), pow_pos (8 - c.args.j))

pub overflow_add-x : goal.overflow_add-x
overflow_add-x c = omega (arith, word_lt c.args.j c.read.result c.read-in-loop-i.result (omega arith))

pub overflow_cast-none : goal.overflow_cast-none
overflow_cast-none c = omega (arith, ones-le 64 _ (word_lt c.args.j c.read.result c.read-in-loop-i.result (omega arith)))

pub overflow_sub-none : goal.overflow_sub-none
overflow_sub-none c = omega (arith, ones-le 64 _ (word_lt c.args.j c.read.result c.read-in-loop-i.result (omega arith)))

pub loop-i-preserved : goal.loop-i-preserved
loop-i-preserved c =
    let z = c.args in
    let l = c.loop-i in
    let x = c.read in
    let y = c.read-in-loop-i in
    let v = x.result / 2 ^ z.j % (1 * 2 ^ (8 - z.j) % 2 ^ 64) + y.result * 2 ^ (8 - z.j) % 2 ^ 64 in
    let e : 64 * (l.i + 1) ≡ 64 * l.i + 64 = omega arith in
    let a : 8 * (z.q + 8 * l.i) + z.j ≡ 8 * z.q + z.j + 64 * l.i = omega arith in
    let d : digits 64 v ≡ bits_at (8 * z.q + z.j + 64 * l.i) 64 z.body.now
    = rw (one_shl_word (8 - z.j) (omega arith), x.ensures, y.ensures) (rw a at (shift_is 8 (z.q + 8 * l.i) z.j z.body.now (λ k. (c.shared_slice_known-1.given k).fits) (omega arith) (omega arith) (omega arith))) in (
      rw e (step_word 8 (z.d + 8 * l.i) (8 * z.d) (8 * z.q + z.j) (64 * l.i) v z.room.now z.body.now l.room _ l.invariant.0 (omega arith) d (omega arith) (omega arith) c.write.ensures),
      rw (l.invariant.1, e) (count_more (8 * z.q + z.j) (64 * l.i) 64 v z.body.now (word_lt z.j x.result y.result (omega arith)) d),
      omega arith,
    )

pub returns : goal.returns
returns c =
    let z = c.args in
    let l = c.loop-i in
    let e : l.i ≡ z.m = omega arith in
    record { room_after = l.invariant.0 ∙ rw e; value = l.invariant.1 ∙ rw e }
