use Prim.Native.Nat.{◌≤◌}
use Rattle.batch.proofs.listed.is_shuffled.Given as goal

abbrev pub invariant-loop-r : goal.invariant-loop-r
invariant-loop-r l = l.breaks ≤ l.r
