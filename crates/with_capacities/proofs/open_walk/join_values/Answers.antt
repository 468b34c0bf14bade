-- `open_walk::join_values` meets its contract. Assumes nothing.
use native.Mathlib.Numerals.{add-one}
use Rattle.refinement.specs.orders.Order.{lent}
use Rattle.with_capacities.proofs.open_walk.Laws.{values_none, values_some}
use Rattle.with_capacities.proofs.open_walk.join_values.Goals as goal

pub returns-then-at_u64-eq0 : goal.returns-then-at_u64-eq0
returns-then-at_u64-eq0 c =
    let z = c.args in
    values_none (lent z.plan.now z.parts.now z.sources.now z.lengths.now z.places.now z.body.now) z.write z.i z.counters.now z.room.now c.at_u64.ensures c.if-at_u64-eq0.true

pub returns : goal.returns
returns c =
    let z = c.args in
    values_some (lent z.plan.now z.parts.now z.sources.now z.lengths.now z.places.now z.body.now) z.write z.i z.counters.now z.room.now c.at_u64.ensures c.if-at_u64-eq0.false (add-one z.i) c.join_entries.ensures
