-- `with_capacities::uncounted` meets its contract. Assumes nothing.
use Rattle.with_capacities.proofs.uncounted.Goals as goal

pub returns : goal.returns
returns c = c.uncount.ensures.alike
