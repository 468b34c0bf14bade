-- `lent_tables::two_in` meets its contract. Assumes nothing.
use Rattle.array_data.proofs.lent_tables.Laws.{no, yes}
use Rattle.array_data.proofs.lent_tables.two_in.Goals as goal

pub returns-then-not-one_in : goal.returns-then-not-one_in
returns-then-not-one_in c = rw (no c.one_in.ensures c.if-not-one_in.true-raw)

pub returns : goal.returns
returns c = rw (yes c.one_in.ensures c.if-not-one_in.false-raw) (cc)
