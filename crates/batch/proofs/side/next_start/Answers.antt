-- `batch_walk::side::next_start` meets its contract. Assumes nothing.
use mathlib.Core.Path.{refl}
use borrow.Author.Tests.{eq-eqb, ne_eqb}
use Rattle.batch.specs.batch_walk.Side.{next_start}
use Rattle.batch.proofs.side.next_start.Goals as goal

pub returns-then-side-eq2 : goal.returns-then-side-eq2
unfolding next_start
returns-then-side-eq2 c = rw (eq-eqb c.args.side 2 c.if-side-eq2.true) refl

pub returns : goal.returns
unfolding next_start
returns c = rw (ne_eqb c.args.side 2 c.if-side-eq2.false) refl
