-- `schema::is_bare` meets its contract. Assumes nothing.
use Rattle.schema.specs.Tree.{bare}
use Rattle.schema.proofs.is_bare.Goals as goal

pub returns : goal.returns
unfolding bare
returns c = cc
