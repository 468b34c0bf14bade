-- Each of the destinations has at most 130 zeros.
use Rattle.std.proofs.Common.{◌≤◌, ◌*◌}
use Rattle.vectors.proofs.bitmaps.to_all.Given as goal

abbrev pub invariant-loop-b : goal.invariant-loop-b
invariant-loop-b g l = l.none ≤ 130 * l.b
