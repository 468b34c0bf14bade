-- `rows::gaps::gap_ended` meets its contract. Assumes nothing.
use Rattle.nested_rows.proofs.Laws.{gap_one, gap_low}
use Rattle.nested_rows.proofs.gaps.gap_ended.Goals as goal

pub returns-then-gap-gt1 : goal.returns-then-gap-gt1
returns-then-gap-gt1 c = gap_one c.args.gap c.if-gap-gt1.true

pub returns : goal.returns
returns c = gap_low c.args.gap c.if-gap-gt1.false
