-- `lent_tables::mask_holds` meets its contract. Assumes nothing.
use borrow.Author.Tests.{not-true, not-false}
use Rattle.array_data.proofs.lent_tables.Laws.{is_none, is_some}
use Rattle.array_data.proofs.lent_tables.mask_holds.Goals as goal

pub returns-then-place-eq0 : goal.returns-then-place-eq0
returns-then-place-eq0 c = rw (is_none c.place.ensures c.if-place-eq0.true)

pub returns-then-not-may : goal.returns-then-not-may
returns-then-not-may c = rw (is_some c.place.ensures c.if-place-eq0.false, not-true c.args.may c.if-not-may.true-raw)

pub returns : goal.returns
returns c = rw (is_some c.place.ensures c.if-place-eq0.false, not-false c.args.may c.if-not-may.false-raw) (cc)
