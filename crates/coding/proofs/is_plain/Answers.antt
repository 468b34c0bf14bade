-- `coding::is_plain` meets its contract. Assumes nothing.
use Rattle.coding.proofs.Grounds.{plain_no, plain_yes}
use Rattle.coding.proofs.is_plain.Goals as goal

pub returns-then-not-is_fixed : goal.returns-then-not-is_fixed
returns-then-not-is_fixed c = let z = c.args in plain_no z.formats.now z.schema.now z.first z.i c.code_of.ensures c.is_fixed.ensures c.if-not-is_fixed.true-raw

pub returns : goal.returns
returns c = let z = c.args in plain_yes z.formats.now z.schema.now z.first z.i c.code_of.ensures c.is_fixed.ensures c.if-not-is_fixed.false-raw c.dictionary_of.ensures
