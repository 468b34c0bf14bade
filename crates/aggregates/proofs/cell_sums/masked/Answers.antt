-- `cell_sums::masked` meets its contract. Assumes nothing.
use Rattle.aggregates.proofs.cell_sums.Laws.{no_bounded, mask_none, mask_some}
use Rattle.aggregates.proofs.cell_sums.masked.Goals as goal

pub returns-then-d-eq0 : goal.returns-then-d-eq0
returns-then-d-eq0 c = (mask_none c.args.c c.args.d c.if-d-eq0.true, no_bounded)

pub returns : goal.returns
returns c = (mask_some c.args.c c.args.d c.if-d-eq0.false, c.requires)
