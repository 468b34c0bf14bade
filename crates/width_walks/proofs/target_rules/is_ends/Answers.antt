-- `target_rules::is_ends` meets its contract. Assumes nothing.
use Rattle.width_walks.specs.target_rules.Target.{is_ends}
use Rattle.width_walks.proofs.target_rules.is_ends.Goals as goal

pub returns : goal.returns
unfolding is_ends
returns c = cc
