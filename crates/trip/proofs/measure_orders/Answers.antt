-- `trip::measure_orders` meets its contract. Assumes nothing.
use mathlib.Core.Path.{refl, ◌∙◌}
use mathlib.Core.List.{[]}
use Rattle.array_data.proofs.lent_tables.Laws.{no, yes}
use Rattle.transform.specs.Answer.{lent}
use Rattle.trip.proofs.Laws.{measures_too_many, measures_none, measures_counters, measures_plan, measures_refused, measures_made}
use Rattle.trip.proofs.measure_orders.Goals as goal

pub returns-then-n-gt-LONGEST : goal.returns-then-n-gt-LONGEST
returns-then-n-gt-LONGEST c =
    let z = c.args in
    let x = lent z.plan.now [] z.sources.now z.lengths.now z.places.now z.body.now in
    measures_too_many z.orders.now x z.counters.now c.refused.result c.if-n-gt-LONGEST.true c.refused.ensures

pub returns-then-n-eq0 : goal.returns-then-n-eq0
returns-then-n-eq0 c =
    let z = c.args in
    let x = lent z.plan.now [] z.sources.now z.lengths.now z.places.now z.body.now in
    measures_none z.orders.now x z.counters.now c.refused-then-n-eq0.result c.if-n-gt-LONGEST.false refl c.if-n-eq0.true c.refused-then-n-eq0.ensures

pub returns-then-counters-ne-COUNTERS : goal.returns-then-counters-ne-COUNTERS
returns-then-counters-ne-COUNTERS c =
    let z = c.args in
    let x = lent z.plan.now [] z.sources.now z.lengths.now z.places.now z.body.now in
    measures_counters z.orders.now x z.counters.now c.refused-then-counters-ne-COUNTERS.result c.if-n-gt-LONGEST.false refl c.if-n-eq0.false c.refused-then-counters-ne-COUNTERS.ensures c.if-counters-ne-COUNTERS.true

pub returns-then-not-plan_sound : goal.returns-then-not-plan_sound
returns-then-not-plan_sound c =
    let z = c.args in
    let x = lent z.plan.now [] z.sources.now z.lengths.now z.places.now z.body.now in
    measures_plan z.orders.now x z.counters.now c.refused-then-not-plan_sound.result c.if-n-gt-LONGEST.false refl c.if-n-eq0.false c.refused-then-not-plan_sound.ensures c.if-counters-ne-COUNTERS.false (no c.plan_sound.ensures c.if-not-plan_sound.true-raw)

pub returns-then-e-ne0 : goal.returns-then-e-ne0
returns-then-e-ne0 c =
    let z = c.args in
    let x = lent z.plan.now [] z.sources.now z.lengths.now z.places.now z.body.now in
    measures_refused z.orders.now x z.counters.now c.if-n-gt-LONGEST.false refl c.if-counters-ne-COUNTERS.false (yes c.plan_sound.ensures c.if-not-plan_sound.false-raw) c.load-tally.ensures c.walk_orders-e.result c.walk_orders-e.ensures c.if-e-ne0.true

pub returns : goal.returns
returns c =
    let z = c.args in
    let x = lent z.plan.now [] z.sources.now z.lengths.now z.places.now z.body.now in
    measures_made z.orders.now x z.counters.now c.if-n-gt-LONGEST.false refl c.if-counters-ne-COUNTERS.false (yes c.plan_sound.ensures c.if-not-plan_sound.false-raw) c.load-tally.ensures c.walk_orders-e.result c.walk_orders-e.ensures c.if-e-ne0.false c.store.ensures
