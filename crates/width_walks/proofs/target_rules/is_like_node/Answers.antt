-- `target_rules::is_like_node` meets its contract. Assumes nothing.
use Rattle.width_walks.specs.target_rules.Target.{like_node}
use Rattle.width_walks.proofs.target_rules.is_like_node.Goals as goal

pub returns : goal.returns
unfolding like_node
returns c = cc
