-- `growth::add_rows` meets its contract. Assumes nothing.
use Rattle.walk.proofs.plan_words.add_rows.Goals as goal

pub returns : goal.returns
returns c = rw c.grow.ensures
