-- `stop_walks::step_into` meets its contract. Assumes nothing.
use Rattle.leaf_walk.specs.Join.{join}
use Rattle.explain.proofs.stop_walks.Laws.{into_stop, into_on}
use Rattle.explain.specs.stops.Copy.{why_copy}
use Rattle.explain.proofs.stop_walks.step_into.Goals as goal

pub returns-then-g-ne0 : goal.returns-then-g-ne0
returns-then-g-ne0 c =
    let a = c.args in
    let x = join a.plan.now a.parts.now a.lengths.now a.places.now a.body.now a.first a.source in
    into_stop x a.depth a.k a.a a.n c.try_copy-g.ensures c.if-g-ne0.true

pub returns : goal.returns
returns c =
    let a = c.args in
    let x = join a.plan.now a.parts.now a.lengths.now a.places.now a.body.now a.first a.source in
    into_on x a.depth a.k a.a a.n c.try_copy-g.ensures (why_copy x a.depth a.k a.a a.n a.counters.now) c.if-g-ne0.false
