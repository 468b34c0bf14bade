-- `lent_tables::valid_in` meets its contract. Assumes nothing.
use Rattle.array_data.proofs.lent_tables.Laws.{is_none, is_some}
use Rattle.array_data.proofs.lent_tables.valid_in.Goals as goal

pub returns-then-place-eq0 : goal.returns-then-place-eq0
returns-then-place-eq0 c = rw (is_none c.place.ensures c.if-place-eq0.true)

pub returns : goal.returns
returns c = rw (is_some c.place.ensures c.if-place-eq0.false) (cc)
