-- `stop_walks::try_copy` meets its contract. Assumes nothing.
use Rattle.explain.proofs.stop_walks.Laws.{tried_refused, tried_walked}
use mathlib.Core.Path.{refl}
use Rattle.explain.proofs.stop_walks.try_copy.Goals as goal

pub returns-then-g-ne0 : goal.returns-then-g-ne0
returns-then-g-ne0 c = tried_refused c.extend-g.ensures c.if-g-ne0.true refl

pub returns : goal.returns
returns c = tried_walked c.extend-g.ensures c.if-g-ne0.false
