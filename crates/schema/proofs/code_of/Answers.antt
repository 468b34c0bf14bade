-- `schema::code_of` meets its contract. Assumes nothing.
use Rattle.schema.specs.Tree.{code_of}
use Rattle.schema.proofs.code_of.Goals as goal

pub returns : goal.returns
unfolding code_of
returns c = cc
