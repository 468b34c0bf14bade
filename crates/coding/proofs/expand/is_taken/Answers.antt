-- `coding::expand::is_taken` meets its contract. Assumes nothing.
use Rattle.coding.proofs.Runs.{taken_no, taken_yes}
use Rattle.coding.proofs.expand.is_taken.Goals as goal

pub returns-then-not-is_run_end : goal.returns-then-not-is_run_end
returns-then-not-is_run_end c = let z = c.args in taken_no z.formats.now z.schema.now z.first c.code_of.ensures c.is_run_end.ensures c.if-not-is_run_end.true-raw

pub returns : goal.returns
returns c = let z = c.args in taken_yes z.formats.now z.schema.now z.first c.code_of.ensures c.is_run_end.ensures c.if-not-is_run_end.false-raw c.is_plain.ensures
