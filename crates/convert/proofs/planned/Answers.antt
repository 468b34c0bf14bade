-- `convert::planned` meets its contract. Assumes nothing.
use borrow.Author.Rules.{rules}
use Rattle.convert.proofs.planned.Goals as goal

pub plan_anew-requires : goal.plan_anew-requires
plan_anew-requires c = (search rules, c.requires.0, search rules, c.requires.1)

pub returns : goal.returns
returns c = c.plan_anew.ensures
