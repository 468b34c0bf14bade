-- `aggregates::find_runs` meets its contract. Assumes nothing.
use Rattle.aggregates.proofs.find_runs.Goals as goal

pub returns : goal.returns
returns c =
    rw (c.find_ends-ends.ensures, c.find_cells-cells.ensures, c.offset_at-skip.ensures)
