-- `schema::is_values` meets its contract. Assumes nothing.
use Rattle.schema.specs.Tree.{values_shape}
use Rattle.schema.proofs.is_values.Goals as goal

pub returns : goal.returns
unfolding values_shape
returns c = cc
