-- `convert::to_view::to_list_view` meets its contract. Assumes nothing.
use Rattle.convert.proofs.CalledView.{make_large, make_refused, comes_from_lem, walk_sum, walk_wide, draft_long, make_walk, make_room, make_made}
use Rattle.convert.proofs.Called.{room_lengths}
use native.Mathlib.Omega.{arith}
use borrow.Author.Rules.{rules}
use Rattle.convert.proofs.to_view.to_list_view.Goals as goal

pub returns-then-room-gt-CEILING : goal.returns-then-room-gt-CEILING
returns-then-room-gt-CEILING c = let z = c.args in make_large z.formats.now z.schema.now z.lengths.now z.places.now z.buffers.now z.body.now z.first z.n z.target z.target_n z.parts.now z.plan.now z.counters.now z.room.now c.if-room-gt-CEILING.true

pub returns-then-g-ne0 : goal.returns-then-g-ne0
returns-then-g-ne0 c = let z = c.args in make_refused z.formats.now z.schema.now z.lengths.now z.places.now z.buffers.now z.body.now z.first z.n z.target z.target_n c.ground_of-g.ensures c.if-g-ne0.true z.parts.now z.plan.now z.counters.now z.room.now c.if-room-gt-CEILING.false

pub planned-draft-requires : goal.planned-draft-requires
planned-draft-requires c = let z = c.args in (omega arith, comes_from_lem z.formats.now z.schema.now z.lengths.now z.places.now z.buffers.now z.body.now z.first z.n z.target z.target_n c.ground_of-g.ensures c.if-g-ne0.false (search rules))

pub view_walk-g-requires : goal.view_walk-g-requires
view_walk-g-requires c = let z = c.args in record { first_bound = walk_sum z.formats.now z.schema.now z.lengths.now z.places.now z.buffers.now z.body.now z.first z.n z.target z.target_n c.ground_of-g.ensures c.if-g-ne0.false _ c.planned-draft.ensures; plan_value = walk_wide z.formats.now z.schema.now z.lengths.now z.places.now z.buffers.now z.body.now z.first z.n z.target z.target_n c.ground_of-g.ensures c.if-g-ne0.false _ c.planned-draft.ensures }

pub returns-then-g-ne0-2 : goal.returns-then-g-ne0-2
returns-then-g-ne0-2 c = let z = c.args in make_walk z.formats.now z.schema.now z.lengths.now z.places.now z.buffers.now z.body.now z.first z.n z.target z.target_n c.ground_of-g.ensures c.if-g-ne0.false _ c.planned-draft.ensures z.parts.now z.plan.now z.counters.now z.room.now c.if-room-gt-CEILING.false c.view_walk-g.ensures c.if-g-ne0-2.true

pub returns-then-g-ne0-3 : goal.returns-then-g-ne0-3
returns-then-g-ne0-3 c = let z = c.args in make_room z.formats.now z.schema.now z.lengths.now z.places.now z.buffers.now z.body.now z.first z.n z.target z.target_n c.ground_of-g.ensures c.if-g-ne0.false _ c.planned-draft.ensures z.parts.now z.plan.now z.counters.now z.room.now c.if-room-gt-CEILING.false c.view_walk-g.ensures c.if-g-ne0-2.false c.copied-tally.ensures c.room_ground-g.ensures c.if-g-ne0-3.true

pub make-requires : goal.make-requires
make-requires c = let z = c.args in let q = room_lengths _ _ _ _ _ _ c.room_ground-g.ensures c.if-g-ne0-3.false in record { plan_len = (q.0, q.1, draft_long z.formats.now z.schema.now z.lengths.now z.places.now z.buffers.now z.body.now z.first z.n z.target z.target_n c.ground_of-g.ensures c.if-g-ne0.false _ c.planned-draft.ensures); first_bound = walk_sum z.formats.now z.schema.now z.lengths.now z.places.now z.buffers.now z.body.now z.first z.n z.target z.target_n c.ground_of-g.ensures c.if-g-ne0.false _ c.planned-draft.ensures; draft_value = walk_wide z.formats.now z.schema.now z.lengths.now z.places.now z.buffers.now z.body.now z.first z.n z.target z.target_n c.ground_of-g.ensures c.if-g-ne0.false _ c.planned-draft.ensures }

pub returns : goal.returns
returns c = let z = c.args in make_made z.formats.now z.schema.now z.lengths.now z.places.now z.buffers.now z.body.now z.first z.n z.target z.target_n c.ground_of-g.ensures c.if-g-ne0.false _ c.planned-draft.ensures z.parts.now z.plan.now z.counters.now z.room.now c.if-room-gt-CEILING.false c.view_walk-g.ensures c.if-g-ne0-2.false c.copied-tally.ensures c.room_ground-g.ensures c.if-g-ne0-3.false c.make.ensures.0 c.make.ensures.1
