-- `transform::tried_counters::uncounted` meets its contract. Assumes nothing.
use Prim.Native.Nat.{◌-◌}
use native.Mathlib.Omega.{arith}
use Rattle.transform.proofs.tried_counters.Laws.{beyond_all, full_none, full_more}
use Rattle.transform.proofs.tried_counters.uncounted.Goals as goal

pub loop-i-preserved : goal.loop-i-preserved
loop-i-preserved c =
    let l = c.loop-i in
    let a = c.args in
    full_more a.counters.now l.tally a.n l.i (omega arith) (omega arith) l.invariant

pub returns : goal.returns
returns c =
    let l = c.loop-i in
    record { alike = l.invariant.0.0; beyond = l.invariant.1 }
