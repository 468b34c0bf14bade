use Prim.Native.Nat.{◌-◌, ◌≤◌}
use Rattle.transform.proofs.tried_counters.Laws.{Full}
use Rattle.transform.proofs.tried_counters.uncounted.Given as goal

abbrev pub invariant-loop-i : goal.invariant-loop-i
invariant-loop-i l = Full l.counters l.tally l.n l.i
