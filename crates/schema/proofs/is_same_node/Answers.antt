-- `schema::is_same_node` meets its contract. Assumes nothing.
use Rattle.schema.specs.Tree.{same_node}
use Rattle.schema.proofs.is_same_node.Goals as goal

pub returns : goal.returns
unfolding same_node
returns c = cc
