-- `schema::is_ends` meets its contract. Assumes nothing.
use Rattle.schema.specs.Tree.{ends_shape}
use Rattle.schema.proofs.is_ends.Goals as goal

pub returns : goal.returns
unfolding ends_shape
returns c = cc
