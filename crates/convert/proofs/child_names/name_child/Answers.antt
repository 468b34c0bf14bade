-- `child_names::name_child` meets its contract. Assumes nothing.
use native.Mathlib.Omega.{arith}
use lib.ListN.{length}
use Rattle.array_data.proofs.lent_tables.Laws.{no, yes}
use Rattle.source_rules.specs.kinds.Rows.{tables_of}
use Rattle.convert.proofs.child_names.Laws.{lengths_below, nulls_below, places_below, at_least_one, countable, fitting, names_refused, names_short, names_made}
use Rattle.convert.proofs.child_names.name_child.Goals as goal

pub returns-then-g-ne0 : goal.returns-then-g-ne0
returns-then-g-ne0 c =
    let z = c.args in
    let x = tables_of z.lengths.now z.places.now z.buffers.now z.body.now in
    names_refused z.formats.now z.schema.now x z.first z.n z.new_lengths.now z.new_nulls.now z.new_places.now c.column_ground-g.ensures c.if-g-ne0.true

pub returns-then-not-tables_fit : goal.returns-then-not-tables_fit
returns-then-not-tables_fit c =
    let z = c.args in
    let x = tables_of z.lengths.now z.places.now z.buffers.now z.body.now in
    names_short z.formats.now z.schema.now x z.first z.n z.new_lengths.now z.new_nulls.now z.new_places.now c.column_ground-g.ensures c.if-g-ne0.false (no c.tables_fit.ensures c.if-not-tables_fit.true-raw)

pub write_lengths-requires : goal.write_lengths-requires
write_lengths-requires c =
    let z = c.args in
    let x = tables_of z.lengths.now z.places.now z.buffers.now z.body.now in
    let t = fitting z.n (length z.new_lengths.now) (length z.new_nulls.now) (length z.new_places.now) (yes c.tables_fit.ensures c.if-not-tables_fit.false-raw) in
    (at_least_one z.formats.now z.schema.now x z.first z.n (omega (arith, c.ranges.first)) c.column_ground-g.ensures c.if-g-ne0.false, t.of_lengths)

pub write_nulls-requires : goal.write_nulls-requires
write_nulls-requires c =
    let z = c.args in
    let x = tables_of z.lengths.now z.places.now z.buffers.now z.body.now in
    let t = fitting z.n (length z.new_lengths.now) (length z.new_nulls.now) (length z.new_places.now) (yes c.tables_fit.ensures c.if-not-tables_fit.false-raw) in
    (at_least_one z.formats.now z.schema.now x z.first z.n (omega (arith, c.ranges.first)) c.column_ground-g.ensures c.if-g-ne0.false, t.of_nulls, countable z.formats.now z.schema.now x z.first z.n (omega (arith, c.ranges.first)) c.column_ground-g.ensures c.if-g-ne0.false)

pub write_places-requires : goal.write_places-requires
write_places-requires c =
    let z = c.args in
    let x = tables_of z.lengths.now z.places.now z.buffers.now z.body.now in
    let t = fitting z.n (length z.new_lengths.now) (length z.new_nulls.now) (length z.new_places.now) (yes c.tables_fit.ensures c.if-not-tables_fit.false-raw) in
    (at_least_one z.formats.now z.schema.now x z.first z.n (omega (arith, c.ranges.first)) c.column_ground-g.ensures c.if-g-ne0.false, t.of_places)

pub returns : goal.returns
returns c =
    let z = c.args in
    let x = tables_of z.lengths.now z.places.now z.buffers.now z.body.now in
    let h = yes c.tables_fit.ensures c.if-not-tables_fit.false-raw in
    let t = fitting z.n (length z.new_lengths.now) (length z.new_nulls.now) (length z.new_places.now) h in
    let o = at_least_one z.formats.now z.schema.now x z.first z.n (omega (arith, c.ranges.first)) c.column_ground-g.ensures c.if-g-ne0.false in
    let q = nulls_below x z.first z.n o z.new_nulls.now t.of_nulls c.write_nulls.ensures in
    names_made z.formats.now z.schema.now x z.first z.n z.new_lengths.now z.new_nulls.now z.new_places.now c.column_ground-g.ensures c.if-g-ne0.false h
    (lengths_below x z.first z.n o z.new_lengths.now t.of_lengths c.write_lengths.ensures) q
    (places_below x z.first z.n o z.new_nulls.now _ z.new_places.now q t.of_places c.write_places.ensures)
