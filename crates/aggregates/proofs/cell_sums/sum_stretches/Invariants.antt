use Rattle.std.proofs.Common.{◌-◌, ◌≤◌}
use Rattle.aggregates.specs.tally.Cells.{Tallied}
use Rattle.aggregates.specs.cell_sums.Numbers.{cell_in}
use Rattle.aggregates.specs.cell_sums.Steps.{until_of, stretches_of}
use Rattle.aggregates.proofs.cell_sums.sum_stretches.Given as goal

abbrev pub invariant-loop-row : goal.invariant-loop-row
invariant-loop-row l = (l.start ≤ l.row) × (l.row ≤ l.end) × Tallied (cell_in l.body l.n) l.start (l.row - l.start) l.t

abbrev pub decreases-loop-row : goal.decreases-loop-row
decreases-loop-row l = stretches_of (until_of l.body l.n) l.end l.row
