-- `measure::measure_extend` meets its contract. Assumes nothing.
use mathlib.Core.List.{List, []}
use mathlib.Core.Path.{◌∙◌}
use Prim.Native.Nat.{ℕ, ◌-◌, ◌≤◌}
use native.Mathlib.Omega.{arith}
use lib.Dec.{leb}
use borrow.Author.Tests.{leb-true}
use Rattle.array_data.proofs.lent_tables.Laws.{no, yes, and_left}
use Rattle.walk.specs.Log.{Out}
use Rattle.walk.specs.Copy.{copy_walk}
use Rattle.leaf_walk.specs.Join.{join}
use Rattle.refinement.specs.orders.Order.{lent}
use Rattle.measure.proofs.Laws.{measured_no, measured_made, copy_words, copy_foreign, copy_source, copy_range, copy_made}
use Rattle.measure.proofs.measure_extend.Goals as goal

pub returns-then-counters-ne-COUNTERS : goal.returns-then-counters-ne-COUNTERS
returns-then-counters-ne-COUNTERS c =
    let z = c.args in
    copy_words z.counters.now (lent z.plan.now [] z.sources.now z.lengths.now z.places.now z.body.now) z.source z.start z.end c.if-counters-ne-COUNTERS.true

pub returns-then-not-plan_sound : goal.returns-then-not-plan_sound
returns-then-not-plan_sound c =
    let z = c.args in
    copy_foreign z.counters.now (lent z.plan.now [] z.sources.now z.lengths.now z.places.now z.body.now) z.source z.start z.end c.if-counters-ne-COUNTERS.false (no c.plan_sound.ensures c.if-not-plan_sound.true-raw)

pub returns-then-at_u64-source : goal.returns-then-at_u64-source
returns-then-at_u64-source c =
    let z = c.args in
    copy_source z.counters.now (lent z.plan.now [] z.sources.now z.lengths.now z.places.now z.body.now) z.source z.start z.end c.if-counters-ne-COUNTERS.false (yes c.plan_sound.ensures c.if-not-plan_sound.false-raw) c.at_u64.ensures c.if-at_u64-source.true

pub returns-then-not-in_source : goal.returns-then-not-in_source
returns-then-not-in_source c =
    let z = c.args in
    copy_range z.counters.now (lent z.plan.now [] z.sources.now z.lengths.now z.places.now z.body.now) z.source z.start z.end c.if-counters-ne-COUNTERS.false (yes c.plan_sound.ensures c.if-not-plan_sound.false-raw) c.at_u64.ensures c.if-at_u64-source.false c.at_u32-first.ensures (no c.in_source.ensures c.if-not-in_source.true-raw)

pub overflow_sub-end : goal.overflow_sub-end
overflow_sub-end c =
    let z = c.args in
    let f : z.start ≤ z.end = leb-true _ _ (and_left (leb z.start z.end) _ (yes c.in_source.ensures c.if-not-in_source.false-raw)) in
    omega (arith, f)

pub returns-then-g-ne0 : goal.returns-then-g-ne0
returns-then-g-ne0 c =
    let z = c.args in
    let x = lent z.plan.now [] z.sources.now z.lengths.now z.places.now z.body.now in
    let walk : List ℕ → Out = λ l. copy_walk (join z.plan.now [] z.lengths.now z.places.now z.body.now c.at_u32-first.result z.source) 8 0 z.start (z.end - z.start) l in
    copy_made z.counters.now x z.source z.start z.end c.if-counters-ne-COUNTERS.false (yes c.plan_sound.ensures c.if-not-plan_sound.false-raw) c.at_u64.ensures c.if-at_u64-source.false c.at_u32-first.ensures (yes c.in_source.ensures c.if-not-in_source.false-raw) (measured_no z.counters.now z.counters.now walk c.load-tally.ensures c.extend-g.ensures c.if-g-ne0.true)

pub returns : goal.returns
returns c =
    let z = c.args in
    let x = lent z.plan.now [] z.sources.now z.lengths.now z.places.now z.body.now in
    let walk : List ℕ → Out = λ l. copy_walk (join z.plan.now [] z.lengths.now z.places.now z.body.now c.at_u32-first.result z.source) 8 0 z.start (z.end - z.start) l in
    copy_made z.counters.now x z.source z.start z.end c.if-counters-ne-COUNTERS.false (yes c.plan_sound.ensures c.if-not-plan_sound.false-raw) c.at_u64.ensures c.if-at_u64-source.false c.at_u32-first.ensures (yes c.in_source.ensures c.if-not-in_source.false-raw) (measured_made z.counters.now z.counters.now walk c.load-tally.ensures c.extend-g.ensures c.if-g-ne0.false c.store.ensures)
