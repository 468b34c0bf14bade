use Rattle.std.proofs.Common.{ℕ, ◌+◌, ◌<◌, ◌≤◌}
use Rattle.utils.specs.Offsets.{largest, moved}
use Rattle.utils.proofs.over.Given as goal

abbrev pub invariant-loop-row : goal.invariant-loop-row
invariant-loop-row g l = (j : ℕ) → j < l.row → moved g.N.Unsigned.SIZE l.body l.from l.last (j + 1) ≤ largest g.N.Unsigned.SIZE
