-- `sharing::keeps` meets its contract. Assumes nothing.
use Rattle.plan.proofs.dictionaries.keeps.Goals as goal

pub returns : goal.returns
returns c = rw c.if-above.false c.any_null.ensures
