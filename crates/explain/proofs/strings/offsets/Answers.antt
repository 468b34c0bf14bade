-- `stop_walks::strings::offsets` meets its contract. Assumes nothing.
use mathlib.Core.Path.{ap}
use Prim.Native.Nat.{ℕ, ◌*◌}
use native.Mathlib.Omega.{arith}
use Rattle.explain.proofs.strings.offsets.Goals as goal

pub try_offsets-requires : goal.try_offsets-requires
try_offsets-requires c =
    let a = c.args in
    omega (arith, ap (λ (z : ℕ). z * a.n) c.if-w-eq4.true)

pub returns-then-w-eq4 : goal.returns-then-w-eq4
returns-then-w-eq4 c = rw c.if-w-eq4.true c.try_offsets.ensures

pub try_offsets-requires-2 : goal.try_offsets-requires-2
try_offsets-requires-2 c =
    let a = c.args in
    omega (arith, (c.requires.w_value c.if-w-eq4.false), ap (λ (z : ℕ). z * a.n) (c.requires.w_value c.if-w-eq4.false))

pub returns : goal.returns
returns c = rw (c.requires.w_value c.if-w-eq4.false) c.try_offsets-2.ensures
