-- `row_pair::same_row` meets its contract. Assumes nothing.
use mathlib.Core.Path.{sym, ◌∙◌}
use Prim.Native.Nat.{◌<◌, ◌^◌}
use Rattle.source_rules.specs.kinds.Rows.{tables_of}
use Rattle.row_reader.proofs.row_pair.Answers.{same_refused, same_answer}
use Rattle.row_reader.proofs.row_pair.same_row.Goals as goal

pub returns-then-refusal-ne0 : goal.returns-then-refusal-ne0
returns-then-refusal-ne0 c =
    let z = c.args in
    let x = tables_of z.lengths.now z.places.now z.buffers.now z.body.now in
    same_refused z.formats.now z.schema.now x z.first-a z.n-a z.first-b z.n-b z.row_a z.row_b _ c.rows_ground-refusal.ensures c.if-refusal-ne0.true

pub returns : goal.returns
returns c =
    let z = c.args in
    let x = tables_of z.lengths.now z.places.now z.buffers.now z.body.now in
    let a : z.first-a < 2 ^ 32 = c.ranges.first-a.fits in
    let b : z.first-b < 2 ^ 32 = c.ranges.first-b.fits in
    let g = sym c.rows_ground-refusal.ensures ∙ c.if-refusal-ne0.false in
    same_answer z.formats.now z.schema.now x z.first-a z.n-a z.first-b z.n-b z.row_a z.row_b a b (λ j. (c.shared_slice_known-6-1.given j).fits) g _ _ c.leaf_at-a.ensures c.leaf_at-b.ensures _ c.same_leaf.ensures.a_value c.same_leaf.ensures.value
