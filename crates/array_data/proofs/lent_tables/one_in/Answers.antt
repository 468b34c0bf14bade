-- `lent_tables::one_in` meets its contract. Assumes nothing.
use Rattle.array_data.proofs.lent_tables.Laws.{no, yes}
use Rattle.array_data.proofs.lent_tables.one_in.Goals as goal

pub returns-then-not-held : goal.returns-then-not-held
returns-then-not-held c = rw (no c.held.ensures c.if-not-held.true-raw)

pub returns-then-not-valid_in : goal.returns-then-not-valid_in
returns-then-not-valid_in c = rw (yes c.held.ensures c.if-not-held.false-raw, no c.valid_in.ensures c.if-not-valid_in.true-raw)

pub returns : goal.returns
returns c = rw (yes c.held.ensures c.if-not-held.false-raw, yes c.valid_in.ensures c.if-not-valid_in.false-raw) (cc)
