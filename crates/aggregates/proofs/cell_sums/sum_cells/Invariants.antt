use Rattle.std.proofs.Common.{◌-◌}
use Rattle.aggregates.specs.tally.Cells.{Tallied}
use Rattle.aggregates.specs.cell_sums.Numbers.{cell_in, both_cells}
use Rattle.aggregates.proofs.cell_sums.sum_cells.Given as goal

abbrev pub invariant-loop-row : goal.invariant-loop-row
invariant-loop-row l = Tallied (both_cells (cell_in l.body l.a) (cell_in l.body l.b)) l.start (l.row - l.start) l.t
