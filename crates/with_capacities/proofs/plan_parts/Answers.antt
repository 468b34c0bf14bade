-- `with_capacities::plan_parts` meets its contract. Assumes nothing.
use Prim.Native.Nat.{◌*◌}
use native.Mathlib.Omega.{arith}
use Rattle.source_rules.specs.kinds.Rows.{tables_of}
use Rattle.with_capacities.proofs.Laws.{can_plan, plan_is, ask_sources, ask_words, ask_made}
use Rattle.with_capacities.proofs.plan_parts.Goals as goal

pub returns-then-g-ne0 : goal.returns-then-g-ne0
returns-then-g-ne0 c =
    let z = c.args in
    ask_sources z.formats.now z.schema.now z.sources.now (tables_of z.lengths.now z.places.now z.buffers.now z.body.now) z.keep z.gaps z.plan.now c.sources_ground-g.ensures c.if-g-ne0.true

pub returns-then-plan-ne-WORDS : goal.returns-then-plan-ne-WORDS
returns-then-plan-ne-WORDS c =
    let z = c.args in
    ask_words z.formats.now z.schema.now z.sources.now (tables_of z.lengths.now z.places.now z.buffers.now z.body.now) z.keep z.gaps z.plan.now c.sources_ground-g.ensures c.if-g-ne0.false c.if-plan-ne-WORDS.true

pub planned_state-draft-requires : goal.planned_state-draft-requires
planned_state-draft-requires c =
    let z = c.args in
    can_plan z.formats.now z.schema.now z.lengths.now z.places.now z.buffers.now z.body.now z.sources.now z.keep z.gaps (λ s. omega (arith, c.shared_slice_known-1.given (2 * s))) c.sources_ground-g.ensures c.if-g-ne0.false

pub returns : goal.returns
returns c =
    let z = c.args in
    ask_made z.formats.now z.schema.now z.sources.now (tables_of z.lengths.now z.places.now z.buffers.now z.body.now) z.keep z.gaps z.plan.now c.sources_ground-g.ensures c.if-g-ne0.false c.if-plan-ne-WORDS.false (plan_is z.formats.now z.schema.now z.lengths.now z.places.now z.buffers.now z.body.now z.sources.now z.keep z.gaps (λ s. omega (arith, c.shared_slice_known-1.given (2 * s))) c.sources_ground-g.ensures c.if-g-ne0.false c.planned_state-draft.ensures) c.store.ensures
