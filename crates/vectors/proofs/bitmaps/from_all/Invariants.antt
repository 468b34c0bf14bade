-- Each of the sources has at most 1,040 zeros.
use Rattle.std.proofs.Common.{◌≤◌, ◌*◌}
use Rattle.vectors.proofs.bitmaps.from_all.Given as goal

abbrev pub invariant-loop-a : goal.invariant-loop-a
invariant-loop-a g l = l.none ≤ 1040 * l.a
