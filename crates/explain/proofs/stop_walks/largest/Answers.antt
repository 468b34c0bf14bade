-- `stop_walks::largest` meets its contract. Assumes nothing.
use mathlib.Core.Path.{refl}
use Rattle.explain.proofs.stop_walks.largest.Goals as goal

pub returns-then-w-eq2 : goal.returns-then-w-eq2
returns-then-w-eq2 c = rw c.if-w-eq2.true refl

pub returns-then-w-eq4 : goal.returns-then-w-eq4
returns-then-w-eq4 c = rw c.if-w-eq4.true refl

pub returns : goal.returns
returns c = rw (c.requires c.if-w-eq2.false c.if-w-eq4.false) refl
