-- `stop_walks::nulls::step_into` meets its contract. Assumes nothing.
use mathlib.Core.List.{[]}
use Rattle.leaf_walk.specs.Join.{join}
use Rattle.explain.specs.stops.Nulls.{why_nulls}
use Rattle.explain.proofs.nulls.Laws.{into_stop, into_on}
use Rattle.explain.proofs.nulls.step_into.Goals as goal

pub returns-then-g-ne0 : goal.returns-then-g-ne0
returns-then-g-ne0 c =
    let a = c.args in
    let x = join a.plan.now a.parts.now [] [] [] 0 0 in
    into_stop x a.depth a.k a.n c.try_nulls-g.ensures c.if-g-ne0.true

pub returns : goal.returns
returns c =
    let a = c.args in
    let x = join a.plan.now a.parts.now [] [] [] 0 0 in
    into_on x a.depth a.k a.n c.try_nulls-g.ensures (why_nulls x a.depth a.k a.n a.counters.now) c.if-g-ne0.false
