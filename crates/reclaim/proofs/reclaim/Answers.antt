-- `reclaim::reclaim` meets its contract. Assumes nothing.
use native.Mathlib.Omega.{arith}
use Rattle.source_rules.specs.kinds.Rows.{tables_of}
use Rattle.reclaim.proofs.Answered.{plannable, room_lengths, small_room, answered_large, answered_ground, answered_walk, answered_room, answered_made}
use Rattle.reclaim.proofs.reclaim.Goals as goal

pub returns-then-room-gt-CEILING : goal.returns-then-room-gt-CEILING
returns-then-room-gt-CEILING c =
    let a = c.args in
    let x = tables_of a.lengths.now a.places.now a.buffers.now a.body.now in
    answered_large a.formats.now a.schema.now x a.first a.n a.parts.now a.plan.now a.counters.now a.room.now c.if-room-gt-CEILING.true

pub returns-then-g-ne0 : goal.returns-then-g-ne0
returns-then-g-ne0 c =
    let a = c.args in
    let x = tables_of a.lengths.now a.places.now a.buffers.now a.body.now in
    answered_ground a.formats.now a.schema.now x a.first a.n c.ground_of-g.ensures a.parts.now a.plan.now a.counters.now a.room.now (small_room a.room.now c.if-room-gt-CEILING.false) c.if-g-ne0.true

pub planned-draft-requires : goal.planned-draft-requires
planned-draft-requires c =
    let a = c.args in
    let x = tables_of a.lengths.now a.places.now a.buffers.now a.body.now in
    plannable a.formats.now a.schema.now x a.first a.n (omega arith) c.ground_of-g.ensures c.if-g-ne0.false

pub reclaim_walk-g-requires : goal.reclaim_walk-g-requires
reclaim_walk-g-requires c = record { first_bound = omega (arith, c.well_formed); fact = c.head_ranks-head.ensures }

pub returns-then-g-ne0-2 : goal.returns-then-g-ne0-2
returns-then-g-ne0-2 c =
    let a = c.args in
    let x = tables_of a.lengths.now a.places.now a.buffers.now a.body.now in
    answered_walk a.formats.now a.schema.now x a.first a.n c.ground_of-g.ensures c.if-g-ne0.false c.planned-draft.ensures a.parts.now a.room.now (small_room a.room.now c.if-room-gt-CEILING.false) c.reclaim_walk-g.ensures a.plan.now a.counters.now c.if-g-ne0-2.true

pub returns-then-g-ne0-3 : goal.returns-then-g-ne0-3
returns-then-g-ne0-3 c =
    let a = c.args in
    let x = tables_of a.lengths.now a.places.now a.buffers.now a.body.now in
    answered_room a.formats.now a.schema.now x a.first a.n c.ground_of-g.ensures c.if-g-ne0.false c.planned-draft.ensures a.parts.now a.room.now (small_room a.room.now c.if-room-gt-CEILING.false) c.reclaim_walk-g.ensures a.plan.now a.counters.now c.if-g-ne0-2.false c.room_ground-g.ensures c.copied-tally.ensures c.if-g-ne0-3.true

pub make-requires : goal.make-requires
make-requires c =
    let l = room_lengths _ _ _ _ _ _ c.room_ground-g.ensures c.if-g-ne0-3.false in
    record { plan_len = (l.0, l.1, omega (arith, c.planned-draft)); fact = c.head_ranks-head.ensures }

pub returns : goal.returns
returns c =
    let a = c.args in
    let x = tables_of a.lengths.now a.places.now a.buffers.now a.body.now in
    answered_made a.formats.now a.schema.now x a.first a.n c.ground_of-g.ensures c.if-g-ne0.false c.planned-draft.ensures a.parts.now a.room.now (small_room a.room.now c.if-room-gt-CEILING.false) c.reclaim_walk-g.ensures a.plan.now a.counters.now c.if-g-ne0-2.false c.room_ground-g.ensures c.copied-tally.ensures c.if-g-ne0-3.false c.make.ensures.0 c.make.ensures.1
