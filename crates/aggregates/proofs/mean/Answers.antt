-- `aggregates::mean` meets its contract. Assumes nothing.
use Rattle.std.proofs.Common.{◌≡◌, ℕ, ◌<◌, Bool, true, false, not, get_or, sym, refl, ◌∙◌}
use Rattle.source_rules.specs.kinds.Rows.{tables_of}
use Rattle.columns.specs.Grounds.{column_ground}
use Rattle.columns.specs.column_pair.Pair.{range_in}
use Rattle.array_data.specs.type_tree.Lent.{type_of}
use Rattle.aggregates.specs.Report.{whole_type}
use Rattle.aggregates.proofs.Rows.{column_typed}
use Rattle.aggregates.proofs.Tallies.{shape_none, shape_some, numbers_same, in_range, its_sound, all_ready, its_sized, its_count, its_sum, its_room}
use Rattle.aggregates.proofs.Answers.{mean_ground, mean_range, mean_type, mean_answer, range_same}
use Rattle.aggregates.proofs.mean.Goals.{Else-shape-eq0}
use Rattle.aggregates.proofs.mean.Goals as goal

flip : (v b : Bool) → not v ≡ b → v ≡ not b
flip true true e = sym e
flip true false e = refl
flip false true e = refl
flip false false e = sym e

-- what the refusals leave: the column is well formed, the range lies in it, its type has whole numbers, and the body has bytes
kept : (c : Else-shape-eq0) → let x = tables_of c.args.lengths.now c.args.places.now c.args.buffers.now c.args.body.now in
    (column_ground c.args.formats.now c.args.schema.now x c.args.first c.args.n ≡ 0)
    × (range_in x c.args.first c.args.start c.args.end ≡ true)
    × (whole_type (type_of c.args.formats.now c.args.schema.now c.args.first c.args.n) ≡ true)
    × ((j : ℕ) → get_or c.args.body.now j 0 < 256)
kept c =
    let x = tables_of c.args.lengths.now c.args.places.now c.args.buffers.now c.args.body.now in
    let formed = sym c.column_ground-refusal.ensures ∙ c.if-refusal-ne0.false in
    let bytes : (j : ℕ) → get_or c.args.body.now j 0 < 256 = λ j. (c.shared_slice_known-6-1.given j).fits in (
      formed,
      range_same x _ _ _ _ refl ∙ sym c.is_range.ensures ∙ flip _ _ c.if-not-is_range.false-raw,
      shape_some _ _ c.args.first c.args.n (column_typed _ _ x c.args.first c.args.n formed bytes) _ c.find_shape-shape.ensures c.if-shape-eq0.false,
      bytes,
    )

pub returns-then-refusal-ne0 : goal.returns-then-refusal-ne0
returns-then-refusal-ne0 c =
    mean_ground _ _ (tables_of c.args.lengths.now c.args.places.now c.args.buffers.now c.args.body.now) c.args.first c.args.n c.args.start c.args.end _ c.column_ground-refusal.ensures c.if-refusal-ne0.true

pub returns-then-not-is_range : goal.returns-then-not-is_range
returns-then-not-is_range c =
    let x = tables_of c.args.lengths.now c.args.places.now c.args.buffers.now c.args.body.now in
    let formed = sym c.column_ground-refusal.ensures ∙ c.if-refusal-ne0.false in
    mean_range _ _ x c.args.first c.args.n c.args.start c.args.end formed (range_same x _ _ _ _ refl ∙ sym c.is_range.ensures ∙ flip _ _ c.if-not-is_range.true-raw)

pub returns-then-shape-eq0 : goal.returns-then-shape-eq0
returns-then-shape-eq0 c =
    let x = tables_of c.args.lengths.now c.args.places.now c.args.buffers.now c.args.body.now in
    let formed = sym c.column_ground-refusal.ensures ∙ c.if-refusal-ne0.false in
    let within = range_same x _ _ _ _ refl ∙ sym c.is_range.ensures ∙ flip _ _ c.if-not-is_range.false-raw in
    mean_type _ _ x c.args.first c.args.n c.args.start c.args.end formed within
    (shape_none _ _ c.args.first c.args.n (column_typed _ _ x c.args.first c.args.n formed (λ j. (c.shared_slice_known-6-1.given j).fits)) _ c.find_shape-shape.ensures c.if-shape-eq0.true)

pub find_numbers-numbers-requires : goal.find_numbers-numbers-requires
find_numbers-numbers-requires c =
    let x = tables_of c.args.lengths.now c.args.places.now c.args.buffers.now c.args.body.now in
    let k = kept (goal.at.find_numbers-numbers-requires c).Else-shape-eq0 in
    let o = its_sound _ _ x c.args.first c.args.n k.0 k.3 k.2 c.args.start c.args.end k.1 _ c.find_shape-shape.ensures in
    record { code_value = o.is_integer_lem; first_bound = o.runs_sum; fact = o.runs_bytes }

pub sum_rows-t-requires : goal.sum_rows-t-requires
sum_rows-t-requires c =
    let x = tables_of c.args.lengths.now c.args.places.now c.args.buffers.now c.args.body.now in
    let k = kept (goal.at.sum_rows-t-requires c).Else-shape-eq0 in
    let q = c.find_numbers-numbers.ensures ∙ numbers_same _ _ _ _ c.args.first _ in record {
      start_le_end = in_range _ _ x c.args.first c.args.n k.0 k.3 k.2 c.args.start c.args.end k.1;
      all_ready = all_ready _ _ x c.args.first c.args.n k.0 k.3 k.2 c.args.start c.args.end k.1 _ c.find_shape-shape.ensures _ q;
    }

pub lift_of-requires : goal.lift_of-requires
lift_of-requires c =
    let x = tables_of c.args.lengths.now c.args.places.now c.args.buffers.now c.args.body.now in
    let k = kept (goal.at.lift_of-requires c).Else-shape-eq0 in
    let q = c.find_numbers-numbers.ensures ∙ numbers_same _ _ _ _ c.args.first _ in
    its_sized _ _ x c.args.first c.args.n k.0 k.3 k.2 c.args.start c.args.end k.1 _ c.find_shape-shape.ensures _ q

pub mean_of-requires : goal.mean_of-requires
mean_of-requires c =
    let x = tables_of c.args.lengths.now c.args.places.now c.args.buffers.now c.args.body.now in
    let k = kept (goal.at.mean_of-requires c).Else-shape-eq0 in
    let q = c.find_numbers-numbers.ensures ∙ numbers_same _ _ _ _ c.args.first _ in
    its_room _ _ x c.args.first c.args.n k.0 k.3 k.2 c.args.start c.args.end k.1 _ c.find_shape-shape.ensures _ q _ c.sum_rows-t.ensures

pub returns : goal.returns
returns c =
    let x = tables_of c.args.lengths.now c.args.places.now c.args.buffers.now c.args.body.now in
    let k = kept (goal.at.returns c).Else-shape-eq0 in
    let q = c.find_numbers-numbers.ensures ∙ numbers_same _ _ _ _ c.args.first _ in
    c.mean_of.ensures
    ∙ mean_answer _ _ x c.args.first c.args.n c.args.start c.args.end k.0 k.1 k.2 _ _
    (its_count _ _ x c.args.first c.args.n k.0 k.3 k.2 c.args.start c.args.end k.1 _ c.find_shape-shape.ensures _ q _ c.sum_rows-t.ensures)
    (its_sum _ _ x c.args.first c.args.n k.0 k.3 k.2 c.args.start c.args.end k.1 _ c.find_shape-shape.ensures _ q _ c.sum_rows-t.ensures _ c.lift_of.ensures)
