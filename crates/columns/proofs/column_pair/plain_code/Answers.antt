-- `column_pair::plain_code` meets its contract. Assumes nothing.
use borrow.Author.Tests.{eq-eqb, ne_eqb}
use Rattle.columns.specs.column_pair.Pair.{plain_code}
use Rattle.columns.proofs.column_pair.plain_code.Goals as goal

pub returns-then-n-ne1 : goal.returns-then-n-ne1
unfolding plain_code
returns-then-n-ne1 c = rw (ne_eqb _ 1 c.if-n-ne1.true)

pub returns : goal.returns
unfolding plain_code
returns c = rw (eq-eqb _ 1 c.if-n-ne1.false) c.code_of.ensures
