-- `rows::gaps::gap_begun` meets its contract. Assumes nothing.
use Rattle.nested_rows.proofs.Laws.{gap_off, gap_on}
use Rattle.nested_rows.proofs.gaps.gap_begun.Goals as goal

pub returns-then-gap-eq0 : goal.returns-then-gap-eq0
returns-then-gap-eq0 c = gap_off c.args.gap c.if-gap-eq0.true

pub returns : goal.returns
returns c = gap_on c.args.gap c.if-gap-eq0.false
