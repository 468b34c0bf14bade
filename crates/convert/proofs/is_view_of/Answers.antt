-- `convert::is_view_of` meets its contract. Assumes nothing.
use Rattle.convert.proofs.Laws.{views_other, views_wide, views_turned}
use Rattle.convert.proofs.is_view_of.Goals as goal

pub returns-then-not-is_list : goal.returns-then-not-is_list
returns-then-not-is_list c = let z = c.args in views_other z.formats.now z.schema.now z.first z.target _ c.code_of-code.ensures c.is_list.ensures c.if-not-is_list.true-raw

pub returns-then-to-code : goal.returns-then-to-code
returns-then-to-code c = let z = c.args in views_wide z.formats.now z.schema.now z.first z.target _ c.code_of-code.ensures _ c.code_of-to.ensures c.if-to-code.true

pub returns : goal.returns
returns c = let z = c.args in views_turned z.formats.now z.schema.now z.first z.target _ c.code_of-code.ensures _ c.code_of-to.ensures c.is_list.ensures c.if-not-is_list.false-raw c.if-to-code.false
