-- `open_walk::join_source` meets its contract. Assumes nothing.
use Rattle.refinement.specs.orders.Order.{lent}
use Rattle.with_capacities.proofs.open_walk.Laws.{source_did}
use Rattle.with_capacities.proofs.open_walk.join_source.Goals as goal

pub returns : goal.returns
returns c =
    let z = c.args in
    source_did (lent z.plan.now z.parts.now z.sources.now z.lengths.now z.places.now z.body.now) z.write z.i z.counters.now z.room.now z.s c.at_u32-first.ensures c.length_of-n.ensures c.extend.ensures
