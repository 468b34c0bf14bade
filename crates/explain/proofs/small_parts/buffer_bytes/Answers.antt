-- `explain::small_parts::buffer_bytes` meets its contract. Assumes nothing.
use mathlib.Core.Path.{◌≡◌}
use native.Mathlib.Nat.{add-zero}
use native.Mathlib.Omega.{arith}
use Rattle.explain.proofs.small_parts.buffer_bytes.Goals as goal

pub returns-then-b-eq0 : goal.returns-then-b-eq0
returns-then-b-eq0 c =
    let a = c.args in
    rw c.if-b-eq0.true (rw (add-zero a.r) at c.bits.ensures)

pub returns-then-b-eq1 : goal.returns-then-b-eq1
returns-then-b-eq1 c = rw c.if-b-eq1.true c.first_bytes.ensures

pub returns : goal.returns
returns c =
    let a = c.args in
    let e : a.b ≡ 2 = omega (arith, c.if-b-eq0.false, c.if-b-eq1.false, c.requires) in rw e c.second_bytes.ensures
