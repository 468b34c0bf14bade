-- `bits::count_words` meets its contract: none counts the first i words. Assumes nothing.
use mathlib.Core.Path.{◌≡◌, ◌∙◌}
use Prim.Native.Nat.{◌+◌, ◌*◌}
use native.Mathlib.Omega.{arith}
use lib.Count.{ones-le}
use Rattle.bits.specs.Bits.{digits, bits_at}
use Rattle.bits.proofs.Steps.{zeros_none, word_is, count_more}
use Rattle.bits.proofs.count_words.Goals as goal

pub loop-i-init : goal.loop-i-init
loop-i-init c = (zeros_none (8 * c.args.q) c.args.body.now, omega arith)

pub overflow_cast-none : goal.overflow_cast-none
overflow_cast-none c = omega (arith, ones-le 64 c.read-x.result (omega arith))

pub overflow_sub-none : goal.overflow_sub-none
overflow_sub-none c = omega (arith, ones-le 64 c.read-x.result (omega arith))

pub loop-i-preserved : goal.loop-i-preserved
loop-i-preserved c =
    let z = c.args in
    let l = c.loop-i in
    let x = c.read-x in
    let e : 64 * (l.i + 1) ≡ 64 * l.i + 64 = omega arith in
    let a : 8 * (z.q + 8 * l.i) ≡ 8 * z.q + 64 * l.i = omega arith in
    let d : digits 64 x.result ≡ bits_at (8 * z.q + 64 * l.i) 64 z.body.now
    = rw x.ensures (rw a at (word_is 8 (z.q + 8 * l.i) z.body.now (λ k. (c.shared_slice_known-1.given k).fits) (omega arith))) in (
      rw (l.invariant.0, e) (count_more (8 * z.q) (64 * l.i) 64 x.result z.body.now (omega arith) d),
      omega arith,
    )

pub returns : goal.returns
returns c =
    let e : c.loop-i.i ≡ c.args.m = omega arith in
    c.loop-i.invariant.0 ∙ rw e
