-- `measure::measure_open` meets its contract. Assumes nothing.
use mathlib.Core.List.{List, []}
use mathlib.Core.Path.{refl, ◌∙◌}
use Prim.Native.Nat.{ℕ}
use lib.ListN.{replicate}
use Rattle.array_data.proofs.lent_tables.Laws.{no, yes}
use Rattle.walk.specs.Log.{Out}
use Rattle.refinement.specs.opening.Open.{open_walk_of}
use Rattle.refinement.specs.orders.Order.{lent}
use Rattle.measure.proofs.Laws.{measured_no, measured_made, open_words, open_many, open_foreign, open_made}
use Rattle.measure.proofs.measure_open.Goals as goal

pub returns-then-counters-ne-COUNTERS : goal.returns-then-counters-ne-COUNTERS
returns-then-counters-ne-COUNTERS c =
    let z = c.args in
    open_words z.counters.now (lent z.plan.now [] z.sources.now z.lengths.now z.places.now z.body.now) c.if-counters-ne-COUNTERS.true

pub returns-then-at_u64-gt16 : goal.returns-then-at_u64-gt16
returns-then-at_u64-gt16 c =
    let z = c.args in
    open_many z.counters.now (lent z.plan.now [] z.sources.now z.lengths.now z.places.now z.body.now) c.if-counters-ne-COUNTERS.false c.at_u64.ensures c.if-at_u64-gt16.true

pub returns-then-not-plan_sound : goal.returns-then-not-plan_sound
returns-then-not-plan_sound c =
    let z = c.args in
    open_foreign z.counters.now (lent z.plan.now [] z.sources.now z.lengths.now z.places.now z.body.now) c.if-counters-ne-COUNTERS.false c.at_u64.ensures c.if-at_u64-gt16.false (no c.plan_sound.ensures c.if-not-plan_sound.true-raw)

pub returns-then-g-ne0 : goal.returns-then-g-ne0
returns-then-g-ne0 c =
    let z = c.args in
    let x = lent z.plan.now [] z.sources.now z.lengths.now z.places.now z.body.now in
    let walk : List ℕ → Out = λ l. open_walk_of x l in
    open_made z.counters.now x c.if-counters-ne-COUNTERS.false c.at_u64.ensures c.if-at_u64-gt16.false (yes c.plan_sound.ensures c.if-not-plan_sound.false-raw) (measured_no z.counters.now (replicate 96 0) walk refl c.open_walk-g.ensures c.if-g-ne0.true)

pub returns : goal.returns
returns c =
    let z = c.args in
    let x = lent z.plan.now [] z.sources.now z.lengths.now z.places.now z.body.now in
    let walk : List ℕ → Out = λ l. open_walk_of x l in
    open_made z.counters.now x c.if-counters-ne-COUNTERS.false c.at_u64.ensures c.if-at_u64-gt16.false (yes c.plan_sound.ensures c.if-not-plan_sound.false-raw) (measured_made z.counters.now (replicate 96 0) walk refl c.open_walk-g.ensures c.if-g-ne0.false c.store.ensures)
