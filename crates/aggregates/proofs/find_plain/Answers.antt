-- `aggregates::find_plain` meets its contract. Assumes nothing.
use Rattle.aggregates.proofs.find_plain.Goals as goal

pub returns : goal.returns
returns c =
    rw (c.find_cells-cells.ensures, c.offset_at-skip.ensures)
