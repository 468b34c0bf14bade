-- `bits::copy_words` meets its contract: room has the bits of the first i words. Assumes nothing.
use mathlib.Core.Path.{◌≡◌, ◌∙◌}
use Prim.Native.Nat.{◌+◌, ◌*◌}
use native.Mathlib.Omega.{arith}
use lib.Count.{ones-le}
use Rattle.bits.specs.Bits.{digits, bits_at}
use Rattle.bits.proofs.Laws.{below_of_lem}
use Rattle.bits.proofs.Steps.{copy_none, zeros_none, word_is, step_word, count_more}
use Rattle.bits.proofs.copy_words.Goals as goal

pub loop-i-init : goal.loop-i-init
loop-i-init c =
    let z = c.args in (
      copy_none (8 * z.d) (8 * z.q) z.room.now z.body.now (below_of_lem 256 z.room.now (λ k. (c.slice_known-1.given k).fits)),
      zeros_none (8 * z.q) z.body.now,
      omega arith,
    )

pub overflow_cast-none : goal.overflow_cast-none
overflow_cast-none c = omega (arith, ones-le 64 c.read-x.result (omega arith))

pub overflow_sub-none : goal.overflow_sub-none
overflow_sub-none c = omega (arith, ones-le 64 c.read-x.result (omega arith))

pub loop-i-preserved : goal.loop-i-preserved
loop-i-preserved c =
    let z = c.args in
    let l = c.loop-i in
    let x = c.read-x in
    let e : 64 * (l.i + 1) ≡ 64 * l.i + 64 = omega arith in
    let a : 8 * (z.q + 8 * l.i) ≡ 8 * z.q + 64 * l.i = omega arith in
    let d : digits 64 x.result ≡ bits_at (8 * z.q + 64 * l.i) 64 z.body.now
    = rw x.ensures (rw a at (word_is 8 (z.q + 8 * l.i) z.body.now (λ k. (c.shared_slice_known-1.given k).fits) (omega arith))) in (
      rw e (step_word 8 (z.d + 8 * l.i) (8 * z.d) (8 * z.q) (64 * l.i) x.result z.room.now z.body.now l.room _ l.invariant.0 (omega arith) d (omega arith) (omega arith) c.write.ensures),
      rw (l.invariant.1, e) (count_more (8 * z.q) (64 * l.i) 64 x.result z.body.now (omega arith) d),
      omega arith,
    )

pub returns : goal.returns
returns c =
    let z = c.args in
    let l = c.loop-i in
    let e : l.i ≡ z.m = omega arith in
    record { room_after = l.invariant.0 ∙ rw e; value = l.invariant.1 ∙ rw e }
