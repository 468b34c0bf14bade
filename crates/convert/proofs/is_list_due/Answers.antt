-- `convert::is_list_due` meets its contract. Assumes nothing.
use Rattle.convert.proofs.Laws.{list_roots, list_below}
use Rattle.convert.proofs.is_list_due.Goals as goal

pub returns-then-not-is_list_of : goal.returns-then-not-is_list_of
returns-then-not-is_list_of c = let z = c.args in list_roots z.formats.now z.schema.now z.first z.n z.target z.target_n c.is_list_of.ensures c.if-not-is_list_of.true-raw

pub returns : goal.returns
returns c = let z = c.args in list_below z.formats.now z.schema.now z.first z.n z.target z.target_n c.is_list_of.ensures c.if-not-is_list_of.false-raw c.same_below.ensures
