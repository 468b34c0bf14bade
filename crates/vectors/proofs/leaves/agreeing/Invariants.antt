-- At most one byte agrees for each that was looked at.
use Rattle.std.proofs.Common.{◌≤◌}
use Rattle.vectors.proofs.leaves.agreeing.Given as goal

abbrev pub invariant-loop-i : goal.invariant-loop-i
invariant-loop-i l = l.n ≤ l.i
