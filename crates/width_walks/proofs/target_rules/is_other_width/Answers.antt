-- `target_rules::is_other_width` meets its contract. Assumes nothing.
use Rattle.width_walks.specs.target_rules.Target.{other_width}
use Rattle.width_walks.proofs.target_rules.is_other_width.Goals as goal

pub returns : goal.returns
unfolding other_width
returns c = cc
