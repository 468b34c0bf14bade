-- `frames::box_of` meets its contract. Assumes nothing.
use mathlib.Core.Path.{sym, ap, ap₂, ◌∙◌}
use mathlib.Core.Bool.{◌&&◌}
use Prim.Native.Nat.{◌-◌}
use native.Mathlib.Omega.{arith}
use Rattle.source_rules.specs.kinds.Rows.{tables_of}
use Rattle.array_data.proofs.lent_tables.Laws.{no, yes, and_left, and_right}
use Rattle.columns.proofs.column_pair.Pair.{pair_none, range_known}
use Rattle.columns.specs.column_pair.Pair.{range_in}
use Rattle.columns.specs.Grounds.{column_ground}
use Rattle.frames.specs.Frames.{framed}
use Rattle.frames.specs.Box.{found, is_double}
use Rattle.frames.proofs.Box.{range_as, placed_to, box_malformed, box_outside, box_other, box_rows, placed, stops_are}
use Rattle.frames.proofs.box_of.Goals as goal

pub returns-then-refusal-ne0 : goal.returns-then-refusal-ne0
returns-then-refusal-ne0 c =
    let z = c.args in
    box_malformed z.formats.now z.schema.now (tables_of z.lengths.now z.places.now z.buffers.now z.body.now) z.first-a z.n-a z.first-b z.n-b z.start z.end c.pair_ground-refusal.ensures c.if-refusal-ne0.true

pub returns-then-not-inside-inside2 : goal.returns-then-not-inside-inside2
returns-then-not-inside-inside2 c =
    let z = c.args in
    let g = sym c.pair_ground-refusal.ensures ∙ c.if-refusal-ne0.false in
    let e = ap₂ ◌&&◌ (c.is_range-inside.ensures ∙ range_as z.lengths.now z.places.now z.buffers.now z.body.now z.first-a z.start z.end) (c.is_range-inside2.ensures ∙ range_as z.lengths.now z.places.now z.buffers.now z.body.now z.first-b z.start z.end) in
    box_outside z.formats.now z.schema.now (tables_of z.lengths.now z.places.now z.buffers.now z.body.now) z.first-a z.n-a z.first-b z.n-b z.start z.end g (no e c.if-not-inside-inside2.true-raw)

pub returns-then-not-are_doubles : goal.returns-then-not-are_doubles
returns-then-not-are_doubles c =
    let z = c.args in
    let g = sym c.pair_ground-refusal.ensures ∙ c.if-refusal-ne0.false in
    let e = ap₂ ◌&&◌ (c.is_range-inside.ensures ∙ range_as z.lengths.now z.places.now z.buffers.now z.body.now z.first-a z.start z.end) (c.is_range-inside2.ensures ∙ range_as z.lengths.now z.places.now z.buffers.now z.body.now z.first-b z.start z.end) in
    let h = yes e c.if-not-inside-inside2.false-raw in
    box_other z.formats.now z.schema.now (tables_of z.lengths.now z.places.now z.buffers.now z.body.now) z.first-a z.n-a z.first-b z.n-b z.start z.end g h (no c.are_doubles.ensures c.if-not-are_doubles.true-raw)

pub overflow_sub-n : goal.overflow_sub-n
overflow_sub-n c =
    let z = c.args in
    let g = sym c.pair_ground-refusal.ensures ∙ c.if-refusal-ne0.false in
    let e = ap₂ ◌&&◌ (c.is_range-inside.ensures ∙ range_as z.lengths.now z.places.now z.buffers.now z.body.now z.first-a z.start z.end) (c.is_range-inside2.ensures ∙ range_as z.lengths.now z.places.now z.buffers.now z.body.now z.first-b z.start z.end) in
    let h = yes e c.if-not-inside-inside2.false-raw in
    (range_known (tables_of z.lengths.now z.places.now z.buffers.now z.body.now) z.first-a z.start z.end (and_left (range_in (tables_of z.lengths.now z.places.now z.buffers.now z.body.now) z.first-a z.start z.end) (range_in (tables_of z.lengths.now z.places.now z.buffers.now z.body.now) z.first-b z.start z.end) h)).0

pub frame_nodes-requires : goal.frame_nodes-requires
frame_nodes-requires c =
    let z = c.args in
    let g = sym c.pair_ground-refusal.ensures ∙ c.if-refusal-ne0.false in
    let e = ap₂ ◌&&◌ (c.is_range-inside.ensures ∙ range_as z.lengths.now z.places.now z.buffers.now z.body.now z.first-a z.start z.end) (c.is_range-inside2.ensures ∙ range_as z.lengths.now z.places.now z.buffers.now z.body.now z.first-b z.start z.end) in
    let h = yes e c.if-not-inside-inside2.false-raw in
    let d = yes c.are_doubles.ensures c.if-not-are_doubles.false-raw in
    let o = pair_none (column_ground z.formats.now z.schema.now (tables_of z.lengths.now z.places.now z.buffers.now z.body.now) z.first-a z.n-a) (column_ground z.formats.now z.schema.now (tables_of z.lengths.now z.places.now z.buffers.now z.body.now) z.first-b z.n-b) g in
    let r = range_known (tables_of z.lengths.now z.places.now z.buffers.now z.body.now) z.first-a z.start z.end (and_left (range_in (tables_of z.lengths.now z.places.now z.buffers.now z.body.now) z.first-a z.start z.end) (range_in (tables_of z.lengths.now z.places.now z.buffers.now z.body.now) z.first-b z.start z.end) h) in
    let s = range_known (tables_of z.lengths.now z.places.now z.buffers.now z.body.now) z.first-b z.start z.end (and_right (range_in (tables_of z.lengths.now z.places.now z.buffers.now z.body.now) z.first-a z.start z.end) (range_in (tables_of z.lengths.now z.places.now z.buffers.now z.body.now) z.first-b z.start z.end) h) in
    let p = placed z.formats.now z.schema.now (tables_of z.lengths.now z.places.now z.buffers.now z.body.now) z.first-a z.n-a o.0 (and_left (is_double z.formats.now z.schema.now z.first-a z.n-a) (is_double z.formats.now z.schema.now z.first-b z.n-b) d) z.end r.1 in
    let q = placed z.formats.now z.schema.now (tables_of z.lengths.now z.places.now z.buffers.now z.body.now) z.first-b z.n-b o.1 (and_right (is_double z.formats.now z.schema.now z.first-a z.n-a) (is_double z.formats.now z.schema.now z.first-b z.n-b) d) z.end s.1 in
    record { a_bound = (omega arith, omega arith); placed = placed_to z.lengths.now z.places.now z.buffers.now z.body.now z.first-a z.start z.end r.0 p; placed_2 = placed_to z.lengths.now z.places.now z.buffers.now z.body.now z.first-b z.start z.end r.0 q }

pub returns : goal.returns
returns c =
    let z = c.args in
    let g = sym c.pair_ground-refusal.ensures ∙ c.if-refusal-ne0.false in
    let e = ap₂ ◌&&◌ (c.is_range-inside.ensures ∙ range_as z.lengths.now z.places.now z.buffers.now z.body.now z.first-a z.start z.end) (c.is_range-inside2.ensures ∙ range_as z.lengths.now z.places.now z.buffers.now z.body.now z.first-b z.start z.end) in
    let h = yes e c.if-not-inside-inside2.false-raw in
    let d = yes c.are_doubles.ensures c.if-not-are_doubles.false-raw in
    c.frame_nodes.ensures ∙ ap (λ ss. found (framed ss)) (stops_are z.formats.now z.schema.now (tables_of z.lengths.now z.places.now z.buffers.now z.body.now) z.first-a z.n-a z.first-b z.n-b g d z.start (z.end - z.start)) ∙ box_rows z.formats.now z.schema.now (tables_of z.lengths.now z.places.now z.buffers.now z.body.now) z.first-a z.n-a z.first-b z.n-b z.start z.end g h d
