-- At most one zero is counted for each bit.
use Rattle.std.proofs.Common.{◌≤◌}
use Rattle.vectors.proofs.bitmaps.zeros_in.Given as goal

abbrev pub invariant-loop-i : goal.invariant-loop-i
invariant-loop-i l = l.none ≤ l.i
