-- `plan::choice_word` meets its contract. Assumes nothing.
use Rattle.plan.proofs.Laws.{byte_flag}
use Rattle.plan.proofs.choice_word.Goals as goal

pub returns : goal.returns
returns c = byte_flag c.args.gaps
