-- `widths::convert` meets its contract. Assumes nothing.
use mathlib.Core.Path.{sym}
use Rattle.widths.proofs.Called.{make_large, make_refused, small_nodes, comes_from_lem, column_good, target_good, make_walk, make_room, make_made, room_lengths, nodes_length}
use borrow.Author.Rules.{rules}
use Rattle.widths.proofs.convert.Goals as goal

pub returns-then-room-gt-CEILING : goal.returns-then-room-gt-CEILING
returns-then-room-gt-CEILING c =
    let z = c.args in
    make_large z.formats.now z.schema.now z.lengths.now z.places.now z.buffers.now z.body.now z.first z.n z.target z.target_n z.parts.now z.plan.now z.counters.now z.room.now c.if-room-gt-CEILING.true

pub returns-then-g-ne0 : goal.returns-then-g-ne0
returns-then-g-ne0 c =
    let z = c.args in
    make_refused z.formats.now z.schema.now z.lengths.now z.places.now z.buffers.now z.body.now z.first z.n z.target z.target_n c.ground_of-g.ensures c.if-g-ne0.true z.parts.now z.plan.now z.counters.now z.room.now c.if-room-gt-CEILING.false

pub words_of-requires : goal.words_of-requires
words_of-requires c =
    let z = c.args in
    let e = c.ground_of-g.ensures in
    let f = c.if-g-ne0.false in
    (small_nodes z.formats.now z.schema.now z.lengths.now z.places.now z.buffers.now z.body.now z.first z.n z.target z.target_n e f, comes_from_lem z.formats.now z.schema.now z.lengths.now z.places.now z.buffers.now z.body.now z.first z.n z.target z.target_n e f (search rules))

pub slice_bounds-convert_walk-end : goal.slice_bounds-convert_walk-end
slice_bounds-convert_walk-end c =
    let z = c.args in
    sym (nodes_length z.formats.now z.schema.now z.lengths.now z.places.now z.buffers.now z.body.now z.first z.n z.target z.target_n c.ground_of-g.ensures c.if-g-ne0.false _ c.words_of.ensures)

pub convert_walk-g-requires : goal.convert_walk-g-requires
convert_walk-g-requires c =
    let z = c.args in
    let e = c.ground_of-g.ensures in
    let f = c.if-g-ne0.false in
    record { by_index = (z.buffers.now, column_good z.formats.now z.schema.now z.lengths.now z.places.now z.buffers.now z.body.now z.first z.n z.target z.target_n e f); n_value = target_good z.formats.now z.schema.now z.lengths.now z.places.now z.buffers.now z.body.now z.first z.n z.target z.target_n e f }

pub returns-then-g-ne0-2 : goal.returns-then-g-ne0-2
returns-then-g-ne0-2 c =
    let z = c.args in
    let w = c.convert_walk-g.ensures z.buffers.now in
    make_walk z.formats.now z.schema.now z.lengths.now z.places.now z.buffers.now z.body.now z.first z.n z.target z.target_n c.ground_of-g.ensures c.if-g-ne0.false _ c.words_of.ensures z.parts.now z.plan.now z.counters.now z.room.now c.if-room-gt-CEILING.false w c.if-g-ne0-2.true

pub words_ground-g-requires : goal.words_ground-g-requires
words_ground-g-requires c =
    let z = c.args in
    small_nodes z.formats.now z.schema.now z.lengths.now z.places.now z.buffers.now z.body.now z.first z.n z.target z.target_n c.ground_of-g.ensures c.if-g-ne0.false

pub returns-then-g-ne0-3 : goal.returns-then-g-ne0-3
returns-then-g-ne0-3 c =
    let z = c.args in
    let w = c.convert_walk-g.ensures z.buffers.now in
    make_room z.formats.now z.schema.now z.lengths.now z.places.now z.buffers.now z.body.now z.first z.n z.target z.target_n c.ground_of-g.ensures c.if-g-ne0.false _ c.words_of.ensures z.parts.now z.plan.now z.counters.now z.room.now c.if-room-gt-CEILING.false w c.if-g-ne0-2.false c.copied-tally.ensures (c.words_ground-g.ensures 0) c.if-g-ne0-3.true

pub make-requires : goal.make-requires
make-requires c =
    let z = c.args in
    let e = c.ground_of-g.ensures in
    let f = c.if-g-ne0.false in
    let q = room_lengths _ _ _ _ _ _ (c.words_ground-g.ensures 0) c.if-g-ne0-3.false in
    record { plan_len = (q.0, q.1, small_nodes z.formats.now z.schema.now z.lengths.now z.places.now z.buffers.now z.body.now z.first z.n z.target z.target_n e f); by_index = (z.buffers.now, column_good z.formats.now z.schema.now z.lengths.now z.places.now z.buffers.now z.body.now z.first z.n z.target z.target_n e f); n_value = target_good z.formats.now z.schema.now z.lengths.now z.places.now z.buffers.now z.body.now z.first z.n z.target z.target_n e f }

pub returns : goal.returns
returns c =
    let z = c.args in
    let w = c.convert_walk-g.ensures z.buffers.now in
    make_made z.formats.now z.schema.now z.lengths.now z.places.now z.buffers.now z.body.now z.first z.n z.target z.target_n c.ground_of-g.ensures c.if-g-ne0.false _ c.words_of.ensures z.parts.now z.plan.now z.counters.now z.room.now c.if-room-gt-CEILING.false w c.if-g-ne0-2.false c.copied-tally.ensures (c.words_ground-g.ensures 0) c.if-g-ne0-3.false c.make.ensures.plan_value (c.make.ensures.fact z.buffers.now)
