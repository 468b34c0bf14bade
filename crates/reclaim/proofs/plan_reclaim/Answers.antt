-- `reclaim::plan_reclaim` meets its contract. Assumes nothing.
use mathlib.Core.Path.{◌∙◌}
use mathlib.Core.List.{[]}
use native.Mathlib.Omega.{arith}
use Rattle.source_rules.specs.kinds.Rows.{tables_of}
use Rattle.reclaim.proofs.Answered.{plannable, asked_ground, asked_walk, asked_plan, asked_counters, asked_done}
use borrow.Author.Rules.{rules}
use Rattle.reclaim.proofs.plan_reclaim.Goals as goal

pub returns-then-g-ne0 : goal.returns-then-g-ne0
returns-then-g-ne0 c =
    let a = c.args in
    let x = tables_of a.lengths.now a.places.now a.buffers.now a.body.now in
    asked_ground a.formats.now a.schema.now x a.first a.n c.ground_of-g.ensures a.plan.now a.counters.now c.if-g-ne0.true

pub planned-draft-requires : goal.planned-draft-requires
planned-draft-requires c =
    let a = c.args in
    let x = tables_of a.lengths.now a.places.now a.buffers.now a.body.now in
    plannable a.formats.now a.schema.now x a.first a.n (omega arith) c.ground_of-g.ensures c.if-g-ne0.false

pub reclaim_walk-g-requires : goal.reclaim_walk-g-requires
reclaim_walk-g-requires c = record { first_bound = search rules; fact = c.head_ranks-head.ensures }

pub returns-then-g-ne0-2 : goal.returns-then-g-ne0-2
returns-then-g-ne0-2 c =
    let a = c.args in
    let x = tables_of a.lengths.now a.places.now a.buffers.now a.body.now in
    asked_walk a.formats.now a.schema.now x a.first a.n c.ground_of-g.ensures c.if-g-ne0.false c.planned-draft.ensures [] c.reclaim_walk-g.ensures a.plan.now a.counters.now c.if-g-ne0-2.true

pub returns-then-plan-ne-WORDS : goal.returns-then-plan-ne-WORDS
returns-then-plan-ne-WORDS c =
    let a = c.args in
    let x = tables_of a.lengths.now a.places.now a.buffers.now a.body.now in
    asked_plan a.formats.now a.schema.now x a.first a.n c.ground_of-g.ensures c.if-g-ne0.false c.planned-draft.ensures [] c.reclaim_walk-g.ensures a.plan.now a.counters.now c.if-g-ne0-2.false c.if-plan-ne-WORDS.true

pub returns-then-counters-ne-COUNTERS : goal.returns-then-counters-ne-COUNTERS
returns-then-counters-ne-COUNTERS c =
    let a = c.args in
    let x = tables_of a.lengths.now a.places.now a.buffers.now a.body.now in
    asked_counters a.formats.now a.schema.now x a.first a.n c.ground_of-g.ensures c.if-g-ne0.false c.planned-draft.ensures [] c.reclaim_walk-g.ensures a.plan.now a.counters.now c.if-g-ne0-2.false c.if-plan-ne-WORDS.false c.if-counters-ne-COUNTERS.true

pub returns : goal.returns
returns c =
    let a = c.args in
    let x = tables_of a.lengths.now a.places.now a.buffers.now a.body.now in
    asked_done a.formats.now a.schema.now x a.first a.n c.ground_of-g.ensures c.if-g-ne0.false c.planned-draft.ensures [] c.reclaim_walk-g.ensures a.plan.now a.counters.now c.if-g-ne0-2.false c.if-plan-ne-WORDS.false c.if-counters-ne-COUNTERS.false c.keep_result.ensures.plan_after (c.keep_result.ensures.counters_after ∙ c.copied-made.ensures)
