-- `result_plan::words_ground` meets its contract. Assumes nothing.
use mathlib.Core.Path.{refl, sym, ◌∙◌}
use Rattle.anew.specs.ResultPlan.{plan_by}
use Rattle.anew.proofs.ByWords.{hold_by}
use Rattle.anew.proofs.result_plan.Laws.{not_plan, not_counters, placed_by, room_badly, room_small, room_good}
use Rattle.anew.proofs.result_plan.words_ground.Goals as goal

pub returns-then-plan-ne-WORDS : goal.returns-then-plan-ne-WORDS
returns-then-plan-ne-WORDS c kept =
    let z = c.args in
    room_badly (plan_by z.words.now z.n kept) z.tally.now z.parts.now z.plan z.counters z.m (not_plan z.plan z.counters _ c.if-plan-ne-WORDS.true) refl

pub returns-then-counters-ne-COUNTERS : goal.returns-then-counters-ne-COUNTERS
returns-then-counters-ne-COUNTERS c kept =
    let z = c.args in
    room_badly (plan_by z.words.now z.n kept) z.tally.now z.parts.now z.plan z.counters z.m (not_counters z.plan z.counters _ c.if-plan-ne-WORDS.false c.if-counters-ne-COUNTERS.true) refl

pub parts_before-requires : goal.parts_before-requires
parts_before-requires c = c.requires

pub parts_placed-requires : goal.parts_placed-requires
parts_placed-requires c = c.parts_before.ensures.upper_bound

pub returns-then-not-parts_placed : goal.returns-then-not-parts_placed
returns-then-not-parts_placed c kept =
    let z = c.args in
    let at = placed_by z.words.now z.n kept z.parts.now z.plan z.counters z.m c.requires c.if-plan-ne-WORDS.false c.if-counters-ne-COUNTERS.false c.parts_before.ensures.value c.parts_placed.ensures in
    room_badly (plan_by z.words.now z.n kept) z.tally.now z.parts.now z.plan z.counters z.m at c.if-not-parts_placed.true-raw

pub nodes_hold-requires : goal.nodes_hold-requires
nodes_hold-requires c = c.requires

pub returns-then-not-nodes_hold : goal.returns-then-not-nodes_hold
returns-then-not-nodes_hold c kept =
    let z = c.args in
    let at = placed_by z.words.now z.n kept z.parts.now z.plan z.counters z.m c.requires c.if-plan-ne-WORDS.false c.if-counters-ne-COUNTERS.false c.parts_before.ensures.value c.parts_placed.ensures in
    let held = c.nodes_hold.ensures ∙ sym (hold_by z.words.now z.n kept c.requires z.tally.now z.parts.now) in
    room_small (plan_by z.words.now z.n kept) z.tally.now z.parts.now z.plan z.counters z.m at c.if-not-parts_placed.false-raw held c.if-not-nodes_hold.true-raw

pub returns : goal.returns
returns c kept =
    let z = c.args in
    let at = placed_by z.words.now z.n kept z.parts.now z.plan z.counters z.m c.requires c.if-plan-ne-WORDS.false c.if-counters-ne-COUNTERS.false c.parts_before.ensures.value c.parts_placed.ensures in
    let held = c.nodes_hold.ensures ∙ sym (hold_by z.words.now z.n kept c.requires z.tally.now z.parts.now) in
    room_good (plan_by z.words.now z.n kept) z.tally.now z.parts.now z.plan z.counters z.m at c.if-not-parts_placed.false-raw held c.if-not-nodes_hold.false-raw
