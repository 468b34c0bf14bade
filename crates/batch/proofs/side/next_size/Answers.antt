-- `batch_walk::side::next_size` meets its contract. Assumes nothing.
use mathlib.Core.Path.{refl}
use borrow.Author.Tests.{eq-eqb, ne_eqb}
use Rattle.batch.specs.batch_walk.Side.{next_size}
use Rattle.batch.proofs.side.next_size.Goals as goal

pub returns-then-side-eq2 : goal.returns-then-side-eq2
unfolding next_size
returns-then-side-eq2 c = rw (eq-eqb c.args.side 2 c.if-side-eq2.true) refl

pub returns-then-side-eq1 : goal.returns-then-side-eq1
unfolding next_size
returns-then-side-eq1 c = rw (ne_eqb c.args.side 2 c.if-side-eq2.false, eq-eqb c.args.side 1 c.if-side-eq1.true) refl

pub returns : goal.returns
unfolding next_size
returns c = rw (ne_eqb c.args.side 2 c.if-side-eq2.false, ne_eqb c.args.side 1 c.if-side-eq1.false) refl
