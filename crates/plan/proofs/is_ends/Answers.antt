-- `plan::is_ends` meets its contract. Assumes nothing.
use Prim.Native.Nat.{◌-◌}
use native.Mathlib.Omega.{arith}
use Rattle.plan.proofs.Laws.{ends_root, ends_next}
use Rattle.plan.proofs.is_ends.Goals as goal

pub returns-then-i-eq0 : goal.returns-then-i-eq0
returns-then-i-eq0 c = let z = c.args in ends_root z.plan.now z.i c.if-i-eq0.true

pub returns : goal.returns
returns c =
    let z = c.args in
    ends_next z.plan.now z.i (z.i - 1) (omega arith) c.code_of.ensures c.is_run_end.ensures
