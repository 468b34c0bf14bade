-- `with_capacities::try_with_capacities` meets its contract. Assumes nothing.
use Prim.Native.Nat.{◌*◌}
use native.Mathlib.Omega.{arith}
use Rattle.source_rules.specs.kinds.Rows.{tables_of}
use lib.ListN.{length}
use Rattle.plan.specs.parts.Parts.{part_total, parts_placed}
use Rattle.with_capacities.proofs.Laws.{can_plan, plan_is, few_sources_lem, open_large, open_sources, open_room, open_made, lengths_are}
use borrow.Author.Rules.{rules}
use Rattle.with_capacities.proofs.try_with_capacities.Goals as goal

pub returns-then-room-gt-CEILING : goal.returns-then-room-gt-CEILING
returns-then-room-gt-CEILING c =
    let z = c.args in
    open_large z.formats.now z.schema.now z.sources.now (tables_of z.lengths.now z.places.now z.buffers.now z.body.now) z.keep z.gaps z.parts.now z.plan.now z.counters.now z.room.now c.if-room-gt-CEILING.true

pub returns-then-g-ne0 : goal.returns-then-g-ne0
returns-then-g-ne0 c =
    let z = c.args in
    open_sources z.formats.now z.schema.now z.sources.now (tables_of z.lengths.now z.places.now z.buffers.now z.body.now) z.keep z.gaps z.parts.now z.plan.now z.counters.now z.room.now c.if-room-gt-CEILING.false c.sources_ground-g.ensures c.if-g-ne0.true

pub planned_state-draft-requires : goal.planned_state-draft-requires
planned_state-draft-requires c =
    let z = c.args in
    can_plan z.formats.now z.schema.now z.lengths.now z.places.now z.buffers.now z.body.now z.sources.now z.keep z.gaps (λ s. omega (arith, c.shared_slice_known-1.given (2 * s))) c.sources_ground-g.ensures c.if-g-ne0.false

pub returns-then-not-room_placed : goal.returns-then-not-room_placed
returns-then-not-room_placed c =
    let z = c.args in
    let q = plan_is z.formats.now z.schema.now z.lengths.now z.places.now z.buffers.now z.body.now z.sources.now z.keep z.gaps (λ s. omega (arith, c.shared_slice_known-1.given (2 * s))) c.sources_ground-g.ensures c.if-g-ne0.false c.planned_state-draft.ensures in
    open_room z.formats.now z.schema.now z.sources.now (tables_of z.lengths.now z.places.now z.buffers.now z.body.now) z.keep z.gaps z.parts.now z.plan.now z.counters.now z.room.now c.if-room-gt-CEILING.false c.sources_ground-g.ensures c.if-g-ne0.false q c.room_placed.ensures c.if-not-room_placed.true-raw

pub make-requires : goal.make-requires
make-requires c =
    let z = c.args in
    let l = lengths_are z.formats.now z.schema.now z.sources.now (tables_of z.lengths.now z.places.now z.buffers.now z.body.now) z.keep z.gaps z.parts.now z.plan.now z.counters.now z.room.now (parts_placed z.parts.now (part_total c.planned_state-draft.result) (length z.room.now)) c.room_placed.ensures c.if-not-room_placed.false-raw in
    (few_sources_lem z.formats.now z.schema.now z.lengths.now z.places.now z.buffers.now z.body.now z.sources.now z.keep z.gaps (λ s. omega (arith, c.shared_slice_known-1.given (2 * s))) c.sources_ground-g.ensures c.if-g-ne0.false c.planned_state-draft.ensures, search rules, l.0, l.1)

pub returns : goal.returns
returns c =
    let z = c.args in
    let q = plan_is z.formats.now z.schema.now z.lengths.now z.places.now z.buffers.now z.body.now z.sources.now z.keep z.gaps (λ s. omega (arith, c.shared_slice_known-1.given (2 * s))) c.sources_ground-g.ensures c.if-g-ne0.false c.planned_state-draft.ensures in
    open_made z.formats.now z.schema.now z.sources.now (tables_of z.lengths.now z.places.now z.buffers.now z.body.now) z.keep z.gaps z.parts.now z.plan.now z.counters.now z.room.now c.if-room-gt-CEILING.false c.sources_ground-g.ensures c.if-g-ne0.false q c.room_placed.ensures c.if-not-room_placed.false-raw (c.make.ensures z.formats.now z.schema.now z.buffers.now z.keep z.gaps q)
