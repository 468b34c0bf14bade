use Rattle.std.proofs.Common.{◌-◌, ◌≤◌}
use Rattle.aggregates.specs.tally.Cells.{Tallied}
use Rattle.aggregates.specs.cell_sums.Numbers.{cell_in, both_cells, Flat}
use Rattle.aggregates.specs.cell_sums.Steps.{until_of, both_left}
use Rattle.aggregates.proofs.cell_sums.sum_both_stretches.Given as goal

abbrev pub invariant-loop-row : goal.invariant-loop-row
invariant-loop-row l =
    (l.start ≤ l.row) × (l.row ≤ l.end) × Tallied (both_cells (cell_in l.body l.a) (cell_in l.body l.b)) l.start (l.row - l.start) l.t × Tallied (both_cells (cell_in l.body l.b) (cell_in l.body l.a)) l.start (l.row - l.start) l.u
    × Flat (cell_in l.body l.a) l.row l.p
    × Flat (cell_in l.body l.b) l.row l.q
    × (l.row ≤ l.p.until)
    × (l.row ≤ l.q.until)

abbrev pub decreases-loop-row : goal.decreases-loop-row
decreases-loop-row l = both_left (until_of l.body l.a) (until_of l.body l.b) l.end l.row l.p.until l.q.until
