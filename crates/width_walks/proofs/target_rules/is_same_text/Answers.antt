-- `target_rules::is_same_text` meets its contract. Assumes nothing.
use Rattle.width_walks.specs.target_rules.Target.{same_text}
use Rattle.width_walks.proofs.target_rules.is_same_text.Goals as goal

pub returns : goal.returns
unfolding same_text
returns c = cc
