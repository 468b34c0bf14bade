-- `into_builder::into_builder` meets its contract. Assumes nothing.
use Rattle.array_data.proofs.lent_tables.Laws.{no, yes}
use lib.ListN.{length}
use Rattle.into_builder.proofs.places.Spots.{bits_in_lem, placed_in}
use Rattle.into_builder.proofs.Whole.{ends_in_lem, fit_is, holds_within, holds_hold, finish_far, finish_kept, finish_room, finish_tables, finish_made}
use Rattle.into_builder.proofs.into_builder.Goals as goal

pub returns-then-not-sizes_fit : goal.returns-then-not-sizes_fit
returns-then-not-sizes_fit c =
    let z = c.args in
    finish_far z.plan.now z.parts.now z.sources.now z.lengths.now z.places.now z.body.now z.buffers.now z.counters.now z.room.now z.base z.new_lengths.now z.new_nulls.now z.new_places.now z.new_buffers.now (no c.sizes_fit.ensures c.if-not-sizes_fit.true-raw)

pub returns-then-not-all_kept : goal.returns-then-not-all_kept
returns-then-not-all_kept c =
    let z = c.args in
    finish_kept z.plan.now z.parts.now z.sources.now z.lengths.now z.places.now z.body.now z.buffers.now z.counters.now z.room.now z.base z.new_lengths.now z.new_nulls.now z.new_places.now z.new_buffers.now (yes c.sizes_fit.ensures c.if-not-sizes_fit.false-raw) (no c.all_kept.ensures c.if-not-all_kept.true-raw)

pub returns-then-not-room_fits : goal.returns-then-not-room_fits
returns-then-not-room_fits c =
    let z = c.args in
    finish_room z.plan.now z.parts.now z.sources.now z.lengths.now z.places.now z.body.now z.buffers.now z.counters.now z.room.now z.base z.new_lengths.now z.new_nulls.now z.new_places.now z.new_buffers.now (yes c.sizes_fit.ensures c.if-not-sizes_fit.false-raw) (yes c.all_kept.ensures c.if-not-all_kept.false-raw) (no c.room_fits.ensures c.if-not-room_fits.true-raw)

pub returns-then-not-tables_fit : goal.returns-then-not-tables_fit
returns-then-not-tables_fit c =
    let z = c.args in
    finish_tables z.plan.now z.parts.now z.sources.now z.lengths.now z.places.now z.body.now z.buffers.now z.counters.now z.room.now z.base z.new_lengths.now z.new_nulls.now z.new_places.now z.new_buffers.now (yes c.sizes_fit.ensures c.if-not-sizes_fit.false-raw) (yes c.all_kept.ensures c.if-not-all_kept.false-raw) (yes c.room_fits.ensures c.if-not-room_fits.false-raw) (no c.tables_fit.ensures c.if-not-tables_fit.true-raw)

pub write_lengths-requires : goal.write_lengths-requires
write_lengths-requires c =
    let z = c.args in
    let t = fit_is z.plan.now z.sources.now z.places.now (length z.new_lengths.now) (length z.new_nulls.now) (length z.new_places.now) (length z.new_buffers.now) (yes c.tables_fit.ensures c.if-not-tables_fit.false-raw) in
    t.lengths

pub write_nulls-requires : goal.write_nulls-requires
write_nulls-requires c =
    let z = c.args in
    let t = fit_is z.plan.now z.sources.now z.places.now (length z.new_lengths.now) (length z.new_nulls.now) (length z.new_places.now) (length z.new_buffers.now) (yes c.tables_fit.ensures c.if-not-tables_fit.false-raw) in
    let h = yes c.room_fits.ensures c.if-not-room_fits.false-raw in
    let w = holds_within z.plan.now z.parts.now z.counters.now (length z.room.now) h in
    let k = holds_hold z.plan.now z.parts.now z.counters.now (length z.room.now) h in
    (t.nulls, λ i l. bits_in_lem z.plan.now z.parts.now z.counters.now (length z.room.now) w k i l, yes c.all_kept.ensures c.if-not-all_kept.false-raw)

pub write_places-requires : goal.write_places-requires
write_places-requires c =
    let z = c.args in
    let t = fit_is z.plan.now z.sources.now z.places.now (length z.new_lengths.now) (length z.new_nulls.now) (length z.new_places.now) (length z.new_buffers.now) (yes c.tables_fit.ensures c.if-not-tables_fit.false-raw) in
    let h = yes c.room_fits.ensures c.if-not-room_fits.false-raw in
    let w = holds_within z.plan.now z.parts.now z.counters.now (length z.room.now) h in
    let k = holds_hold z.plan.now z.parts.now z.counters.now (length z.room.now) h in
    (t.places_are, λ i l. placed_in z.plan.now z.parts.now z.counters.now (length z.room.now) w k i l z.base (ends_in_lem z.base (length z.room.now) (yes c.sizes_fit.ensures c.if-not-sizes_fit.false-raw)))

pub write_buffers-requires : goal.write_buffers-requires
write_buffers-requires c =
    let z = c.args in
    let t = fit_is z.plan.now z.sources.now z.places.now (length z.new_lengths.now) (length z.new_nulls.now) (length z.new_places.now) (length z.new_buffers.now) (yes c.tables_fit.ensures c.if-not-tables_fit.false-raw) in
    t.names

pub returns : goal.returns
returns c =
    let z = c.args in
    finish_made z.plan.now z.parts.now z.sources.now z.lengths.now z.places.now z.body.now z.buffers.now z.counters.now z.room.now z.base z.new_lengths.now z.new_nulls.now z.new_places.now z.new_buffers.now (yes c.sizes_fit.ensures c.if-not-sizes_fit.false-raw) (yes c.all_kept.ensures c.if-not-all_kept.false-raw) (yes c.room_fits.ensures c.if-not-room_fits.false-raw) (yes c.tables_fit.ensures c.if-not-tables_fit.false-raw)
    c.write_lengths.ensures c.write_nulls.ensures (c.write_places.ensures z.lengths.now z.body.now z.buffers.now z.room.now c.write_nulls.ensures) c.write_buffers.ensures
