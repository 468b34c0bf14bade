use Rattle.std.proofs.Common.{◌*◌}
use Rattle.aggregates.specs.tally.Cells.{Tallied}
use Rattle.aggregates.specs.cell_sums.Numbers.{cell_in, both_cells}
use Rattle.aggregates.proofs.cell_sums.sum_words.Given as goal

abbrev pub invariant-loop-k : goal.invariant-loop-k
invariant-loop-k l = Tallied (both_cells (cell_in l.body l.a) (cell_in l.body l.b)) l.start (64 * l.k) l.t
