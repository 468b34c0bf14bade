-- `measure::measure_nulls` meets its contract. Assumes nothing.
use mathlib.Core.List.{List, []}
use mathlib.Core.Path.{◌∙◌}
use Prim.Native.Nat.{ℕ}
use Rattle.array_data.proofs.lent_tables.Laws.{no, yes}
use Rattle.walk.specs.Log.{Out}
use Rattle.walk.specs.Nulls.{null_walk}
use Rattle.leaf_walk.specs.Join.{join}
use Rattle.refinement.specs.orders.Order.{lent}
use Rattle.measure.proofs.Laws.{measured_no, measured_made, null_words, null_foreign, null_keeps, null_made}
use Rattle.measure.proofs.measure_nulls.Goals as goal

pub returns-then-counters-ne-COUNTERS : goal.returns-then-counters-ne-COUNTERS
returns-then-counters-ne-COUNTERS c =
    let z = c.args in
    λ sources lengths places body. null_words z.counters.now (lent z.plan.now [] sources lengths places body) z.n c.if-counters-ne-COUNTERS.true

pub returns-then-not-plan_sound : goal.returns-then-not-plan_sound
returns-then-not-plan_sound c =
    let z = c.args in
    λ sources lengths places body. null_foreign z.counters.now (lent z.plan.now [] sources lengths places body) z.n c.if-counters-ne-COUNTERS.false (no c.plan_sound.ensures c.if-not-plan_sound.true-raw)

pub returns-then-keeps_of-eq0 : goal.returns-then-keeps_of-eq0
returns-then-keeps_of-eq0 c =
    let z = c.args in
    λ sources lengths places body. null_keeps z.counters.now (lent z.plan.now [] sources lengths places body) z.n c.if-counters-ne-COUNTERS.false (yes c.plan_sound.ensures c.if-not-plan_sound.false-raw) c.keeps_of.ensures c.if-keeps_of-eq0.true

pub returns-then-g-ne0 : goal.returns-then-g-ne0
returns-then-g-ne0 c =
    let z = c.args in
    let walk : List ℕ → Out = λ l. null_walk (join z.plan.now [] [] [] [] 0 0) 8 0 c.at_most_far-m.result l in
    λ sources lengths places body. null_made z.counters.now (lent z.plan.now [] sources lengths places body) z.n c.if-counters-ne-COUNTERS.false (yes c.plan_sound.ensures c.if-not-plan_sound.false-raw) c.keeps_of.ensures c.if-keeps_of-eq0.false c.at_most_far-m.ensures (measured_no z.counters.now z.counters.now walk c.load-tally.ensures c.extend_nulls-g.ensures c.if-g-ne0.true)

pub returns : goal.returns
returns c =
    let z = c.args in
    let walk : List ℕ → Out = λ l. null_walk (join z.plan.now [] [] [] [] 0 0) 8 0 c.at_most_far-m.result l in
    λ sources lengths places body. null_made z.counters.now (lent z.plan.now [] sources lengths places body) z.n c.if-counters-ne-COUNTERS.false (yes c.plan_sound.ensures c.if-not-plan_sound.false-raw) c.keeps_of.ensures c.if-keeps_of-eq0.false c.at_most_far-m.ensures (measured_made z.counters.now z.counters.now walk c.load-tally.ensures c.extend_nulls-g.ensures c.if-g-ne0.false c.store.ensures)
