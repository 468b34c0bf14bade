-- `stop_walks::nulls::try_nulls` meets its contract. Assumes nothing.
use mathlib.Core.Path.{refl}
use mathlib.Core.List.{[]}
use Rattle.leaf_walk.specs.Join.{join}
use Rattle.explain.proofs.stop_walks.Laws.{tried_refused, tried_walked}
use Rattle.explain.proofs.nulls.Laws.{tried_at}
use Rattle.explain.proofs.nulls.try_nulls.Goals as goal

pub returns-then-g-ne0 : goal.returns-then-g-ne0
returns-then-g-ne0 c =
    let a = c.args in
    let x = join a.plan.now a.parts.now [] [] [] 0 0 in
    tried_at x a.depth a.i a.n c.at_most_far-m.ensures (tried_refused c.extend_nulls-g.ensures c.if-g-ne0.true refl)

pub returns : goal.returns
returns c =
    let a = c.args in
    let x = join a.plan.now a.parts.now [] [] [] 0 0 in
    tried_at x a.depth a.i a.n c.at_most_far-m.ensures (tried_walked c.extend_nulls-g.ensures c.if-g-ne0.false)
