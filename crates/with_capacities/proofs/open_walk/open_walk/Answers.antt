-- `open_walk::open_walk` meets its contract. Assumes nothing.
use Rattle.refinement.specs.orders.Order.{lent}
use Rattle.with_capacities.proofs.open_walk.Laws.{walk_did}
use Rattle.with_capacities.proofs.open_walk.open_walk.Goals as goal

pub returns : goal.returns
returns c =
    let z = c.args in
    walk_did (lent z.plan.now z.parts.now z.sources.now z.lengths.now z.places.now z.body.now) z.write z.counters.now z.room.now (c.begin_gaps.ensures z.parts.now z.sources.now z.lengths.now z.places.now z.body.now z.room.now z.write) (c.first_offsets.ensures z.sources.now z.lengths.now z.places.now z.body.now _) c.open_dictionaries.ensures
