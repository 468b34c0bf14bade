-- `convert::is_list_of` meets its contract. Assumes nothing.
use Rattle.convert.proofs.Laws.{roots_other, roots_wide, roots_turned}
use Rattle.convert.proofs.is_list_of.Goals as goal

pub returns-then-not-is_list_view : goal.returns-then-not-is_list_view
returns-then-not-is_list_view c = let z = c.args in roots_other z.formats.now z.schema.now z.first z.target _ c.code_of-code.ensures c.is_list_view.ensures c.if-not-is_list_view.true-raw

pub returns-then-to-code : goal.returns-then-to-code
returns-then-to-code c = let z = c.args in roots_wide z.formats.now z.schema.now z.first z.target _ c.code_of-code.ensures _ c.code_of-to.ensures c.if-to-code.true

pub returns : goal.returns
returns c = let z = c.args in roots_turned z.formats.now z.schema.now z.first z.target _ c.code_of-code.ensures _ c.code_of-to.ensures c.is_list_view.ensures c.if-not-is_list_view.false-raw c.if-to-code.false
