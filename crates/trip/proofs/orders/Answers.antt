-- `trip::orders` meets its contract. Assumes nothing.
use mathlib.Core.Path.{refl}
use Rattle.array_data.proofs.lent_tables.Laws.{no, yes}
use Rattle.transform.specs.Answer.{lent}
use Rattle.trip.proofs.Laws.{too_many, no_orders, foreign_counters, foreign_plan}
use Rattle.trip.proofs.orders.Goals as goal

pub returns-then-n-gt-LONGEST : goal.returns-then-n-gt-LONGEST
returns-then-n-gt-LONGEST c =
    let z = c.args in
    let x = lent z.plan.now z.parts.now z.sources.now z.lengths.now z.places.now z.body.now in
    too_many z.orders.now x z.counters.now z.room.now c.refused.result c.if-n-gt-LONGEST.true c.refused.ensures

pub returns-then-n-eq0 : goal.returns-then-n-eq0
returns-then-n-eq0 c =
    let z = c.args in
    let x = lent z.plan.now z.parts.now z.sources.now z.lengths.now z.places.now z.body.now in
    no_orders z.orders.now x z.counters.now z.room.now c.refused-then-n-eq0.result c.if-n-gt-LONGEST.false refl c.if-n-eq0.true c.refused-then-n-eq0.ensures

pub returns-then-counters-ne-COUNTERS : goal.returns-then-counters-ne-COUNTERS
returns-then-counters-ne-COUNTERS c =
    let z = c.args in
    let x = lent z.plan.now z.parts.now z.sources.now z.lengths.now z.places.now z.body.now in
    foreign_counters z.orders.now x z.counters.now z.room.now c.refused-then-counters-ne-COUNTERS.result c.if-n-gt-LONGEST.false refl c.if-n-eq0.false c.refused-then-counters-ne-COUNTERS.ensures c.if-counters-ne-COUNTERS.true

pub returns-then-not-is_walkable : goal.returns-then-not-is_walkable
returns-then-not-is_walkable c =
    let z = c.args in
    let x = lent z.plan.now z.parts.now z.sources.now z.lengths.now z.places.now z.body.now in
    foreign_plan z.orders.now x z.counters.now z.room.now c.refused-then-not-is_walkable.result c.if-n-gt-LONGEST.false refl c.if-n-eq0.false c.refused-then-not-is_walkable.ensures c.if-counters-ne-COUNTERS.false (no c.is_walkable.ensures c.if-not-is_walkable.true-raw)

pub carry_out-requires : goal.carry_out-requires
carry_out-requires c = (c.if-counters-ne-COUNTERS.false, c.if-n-gt-LONGEST.false, refl, yes c.is_walkable.ensures c.if-not-is_walkable.false-raw)

pub returns : goal.returns
returns c = c.carry_out.ensures
