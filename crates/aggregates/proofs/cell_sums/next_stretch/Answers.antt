-- `cell_sums::next_stretch` meets its contract. Assumes nothing.
use Rattle.aggregates.proofs.cell_sums.Laws.{until_kept, until_next}
use Rattle.aggregates.proofs.cell_sums.next_stretch.Goals as goal

pub returns-then-row-s : goal.returns-then-row-s
returns-then-row-s c = (c.if-row-s.true, c.requires.flat, until_kept c.args.row c.args.s.until _ c.if-row-s.true)

pub find_stretch-requires : goal.find_stretch-requires
find_stretch-requires c = c.requires.row_bound

pub returns : goal.returns
returns c =
    let f = c.find_stretch.ensures in
    (f.0, f.1, until_next c.args.row c.args.s.until _ _ c.if-row-s.false f.2)
