-- `bits::count_fields` meets its contract: none counts the first i bits. Assumes nothing.
use mathlib.Core.Path.{◌≡◌, ◌∙◌}
use Prim.Native.Nat.{◌+◌, ◌*◌, min}
use native.Mathlib.Omega.{arith}
use lib.Count.{ones-le}
use Rattle.bits.proofs.Steps.{zeros_none, count_more}
use Rattle.bits.proofs.count_fields.Goals as goal

pub loop-i-init : goal.loop-i-init
loop-i-init c =
    let z = c.args in
    let a : min z.n 0 ≡ 0 = omega arith in
    rw a (zeros_none (8 * z.q + z.j) z.body.now, omega arith)

pub overflow_cast-none : goal.overflow_cast-none
overflow_cast-none c = omega (arith, ones-le c.first-k.result c.field-x.result c.field-x.ensures.0)

pub overflow_sub-none : goal.overflow_sub-none
overflow_sub-none c = omega (arith, ones-le c.first-k.result c.field-x.result c.field-x.ensures.0)

pub loop-i-preserved : goal.loop-i-preserved
loop-i-preserved c =
    let z = c.args in
    let l = c.loop-i in
    let k = c.first-k.result in
    let a : min z.n (8 * l.i) ≡ 8 * l.i = omega arith in
    let b : min z.n (8 * (l.i + 1)) ≡ 8 * l.i + k = omega arith in
    let f : 8 * (z.q + l.i) + z.j ≡ 8 * z.q + z.j + 8 * l.i = omega arith in
    rw b (
      rw (rw a at l.invariant.0) (count_more (8 * z.q + z.j) (8 * l.i) k c.field-x.result z.body.now c.field-x.ensures.0 (rw f at c.field-x.ensures.1)),
      omega arith,
    )

pub returns : goal.returns
returns c =
    let z = c.args in
    let e : min z.n (8 * c.loop-i.i) ≡ z.n = omega arith in
    c.loop-i.invariant.0 ∙ rw e
