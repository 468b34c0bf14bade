-- `convert::is_view_due` meets its contract. Assumes nothing.
use Rattle.convert.proofs.Laws.{view_roots, view_below}
use Rattle.convert.proofs.is_view_due.Goals as goal

pub returns-then-not-is_view_of : goal.returns-then-not-is_view_of
returns-then-not-is_view_of c = let z = c.args in view_roots z.formats.now z.schema.now z.first z.n z.target z.target_n c.is_view_of.ensures c.if-not-is_view_of.true-raw

pub returns : goal.returns
returns c = let z = c.args in view_below z.formats.now z.schema.now z.first z.n z.target z.target_n c.is_view_of.ensures c.if-not-is_view_of.false-raw c.same_below.ensures
