-- `growth::add_nulls` meets its contract. Assumes nothing.
use Rattle.walk.proofs.plan_words.add_nulls.Goals as goal

pub returns : goal.returns
returns c = rw c.grow.ensures
