-- `whole_cells::find_cells` meets its contract. Assumes nothing.
use Rattle.aggregates.proofs.cells.find_cells.Goals as goal

pub returns : goal.returns
returns c =
    let a = c.place_at-masked.ensures in
    let b = c.place_at-mask.ensures in
    let d = c.place_at-start.ensures in
    rw (a, b, d, c.width_of-width.ensures, c.top_of-top.ensures)
