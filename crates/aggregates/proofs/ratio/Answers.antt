-- `aggregates::ratio` meets its contract. Assumes nothing.
use Rattle.std.proofs.Common.{◌≡◌, ℕ, ◌-◌, ◌<◌, Bool, true, false, not, get_or, sym, refl, ◌∙◌}
use Rattle.source_rules.specs.kinds.Rows.{tables_of}
use Rattle.columns.specs.Grounds.{column_ground}
use Rattle.columns.specs.column_pair.Pair.{range_in}
use Rattle.columns.proofs.column_pair.Pair.{pair_none}
use Rattle.array_data.specs.type_tree.Lent.{type_of}
use Rattle.aggregates.specs.Report.{whole_type, row_of, pair_of}
use Rattle.aggregates.specs.cell_sums.Numbers.{cell_in}
use Rattle.aggregates.proofs.Rows.{column_typed}
use Rattle.aggregates.proofs.Tallies.{shape_none, shape_some, numbers_same, in_range, its_sound, all_ready, its_sized, agreed}
use Rattle.aggregates.proofs.Both.{both_count, both_sum, low_room, shorter, ratio_ground_lem, ratio_range_a, ratio_range_b, ratio_type_a, ratio_type_b, ratio_answer}
use Rattle.aggregates.proofs.Answers.{range_same}
use Rattle.aggregates.proofs.ratio.Goals.{Else-q-eq0}
use Rattle.aggregates.proofs.ratio.Goals as goal

flip : (v b : Bool) → not v ≡ b → v ≡ not b
flip true true e = sym e
flip true false e = refl
flip false true e = refl
flip false false e = sym e

-- what the refusals leave: both columns are well formed, the range lies in both, their types have whole numbers, and the body has bytes
kept : (c : Else-q-eq0) → let x = tables_of c.args.lengths.now c.args.places.now c.args.buffers.now c.args.body.now in
    (pair_of c.args.formats.now c.args.schema.now x c.args.first_a c.args.n_a c.args.first_b c.args.n_b ≡ 0)
    × (
    (column_ground c.args.formats.now c.args.schema.now x c.args.first_a c.args.n_a ≡ 0)
    × (range_in x c.args.first_a c.args.start c.args.end ≡ true)
    × (whole_type (type_of c.args.formats.now c.args.schema.now c.args.first_a c.args.n_a) ≡ true)
    )
    × (
    (column_ground c.args.formats.now c.args.schema.now x c.args.first_b c.args.n_b ≡ 0)
    × (range_in x c.args.first_b c.args.start c.args.end ≡ true)
    × (whole_type (type_of c.args.formats.now c.args.schema.now c.args.first_b c.args.n_b) ≡ true)
    )
    × ((j : ℕ) → get_or c.args.body.now j 0 < 256)
kept c =
    let x = tables_of c.args.lengths.now c.args.places.now c.args.buffers.now c.args.body.now in
    let formed = sym c.pair_ground-refusal.ensures ∙ c.if-refusal-ne0.false in
    let each = pair_none _ _ formed in
    let bytes : (j : ℕ) → get_or c.args.body.now j 0 < 256 = λ j. (c.shared_slice_known-6-1.given j).fits in (
      formed,
      (
        each.0,
        range_same x _ _ _ _ refl ∙ sym c.is_range.ensures ∙ flip _ _ c.if-not-is_range.false-raw,
        shape_some _ _ c.args.first_a c.args.n_a (column_typed _ _ x c.args.first_a c.args.n_a each.0 bytes) _ c.find_shape-p.ensures c.if-p-eq0.false,
      ),
      (
        each.1,
        range_same x _ _ _ _ refl ∙ sym c.is_range-2.ensures ∙ flip _ _ c.if-not-is_range-2.false-raw,
        shape_some _ _ c.args.first_b c.args.n_b (column_typed _ _ x c.args.first_b c.args.n_b each.1 bytes) _ c.find_shape-q.ensures c.if-q-eq0.false,
      ),
      bytes,
    )

pub returns-then-refusal-ne0 : goal.returns-then-refusal-ne0
returns-then-refusal-ne0 c =
    let x = tables_of c.args.lengths.now c.args.places.now c.args.buffers.now c.args.body.now in
    ratio_ground_lem _ _ x c.args.first_a c.args.n_a c.args.first_b c.args.n_b c.args.start c.args.end _ c.pair_ground-refusal.ensures c.if-refusal-ne0.true

pub returns-then-not-is_range : goal.returns-then-not-is_range
returns-then-not-is_range c =
    let x = tables_of c.args.lengths.now c.args.places.now c.args.buffers.now c.args.body.now in
    let formed = sym c.pair_ground-refusal.ensures ∙ c.if-refusal-ne0.false in
    ratio_range_a _ _ x c.args.first_a c.args.n_a c.args.first_b c.args.n_b c.args.start c.args.end formed (range_same x _ _ _ _ refl ∙ sym c.is_range.ensures ∙ flip _ _ c.if-not-is_range.true-raw)

pub returns-then-not-is_range-2 : goal.returns-then-not-is_range-2
returns-then-not-is_range-2 c =
    let x = tables_of c.args.lengths.now c.args.places.now c.args.buffers.now c.args.body.now in
    let formed = sym c.pair_ground-refusal.ensures ∙ c.if-refusal-ne0.false in
    ratio_range_b _ _ x c.args.first_a c.args.n_a c.args.first_b c.args.n_b c.args.start c.args.end formed (range_same x _ _ _ _ refl ∙ sym c.is_range-2.ensures ∙ flip _ _ c.if-not-is_range-2.true-raw)

pub returns-then-p-eq0 : goal.returns-then-p-eq0
returns-then-p-eq0 c =
    let x = tables_of c.args.lengths.now c.args.places.now c.args.buffers.now c.args.body.now in
    let formed = sym c.pair_ground-refusal.ensures ∙ c.if-refusal-ne0.false in
    ratio_type_a _ _ x c.args.first_a c.args.n_a c.args.first_b c.args.n_b c.args.start c.args.end formed (range_same x _ _ _ _ refl ∙ sym c.is_range.ensures ∙ flip _ _ c.if-not-is_range.false-raw) (range_same x _ _ _ _ refl ∙ sym c.is_range-2.ensures ∙ flip _ _ c.if-not-is_range-2.false-raw)
    (shape_none _ _ c.args.first_a c.args.n_a (column_typed _ _ x c.args.first_a c.args.n_a (pair_none _ _ formed).0 (λ j. (c.shared_slice_known-6-1.given j).fits)) _ c.find_shape-p.ensures c.if-p-eq0.true)

pub returns-then-q-eq0 : goal.returns-then-q-eq0
returns-then-q-eq0 c =
    let x = tables_of c.args.lengths.now c.args.places.now c.args.buffers.now c.args.body.now in
    let formed = sym c.pair_ground-refusal.ensures ∙ c.if-refusal-ne0.false in
    ratio_type_b _ _ x c.args.first_a c.args.n_a c.args.first_b c.args.n_b c.args.start c.args.end formed (range_same x _ _ _ _ refl ∙ sym c.is_range.ensures ∙ flip _ _ c.if-not-is_range.false-raw) (range_same x _ _ _ _ refl ∙ sym c.is_range-2.ensures ∙ flip _ _ c.if-not-is_range-2.false-raw)
    (shape_none _ _ c.args.first_b c.args.n_b (column_typed _ _ x c.args.first_b c.args.n_b (pair_none _ _ formed).1 (λ j. (c.shared_slice_known-6-1.given j).fits)) _ c.find_shape-q.ensures c.if-q-eq0.true)

pub find_numbers-a-requires : goal.find_numbers-a-requires
find_numbers-a-requires c =
    let x = tables_of c.args.lengths.now c.args.places.now c.args.buffers.now c.args.body.now in
    let k = kept (goal.at.find_numbers-a-requires c).Else-q-eq0 in
    let o = its_sound _ _ x c.args.first_a c.args.n_a k.1.0 k.3 k.1.2 c.args.start c.args.end k.1.1 _ c.find_shape-p.ensures in
    record { code_value = o.is_integer_lem; first_bound = o.runs_sum; fact = o.runs_bytes }

pub find_numbers-b-requires : goal.find_numbers-b-requires
find_numbers-b-requires c =
    let x = tables_of c.args.lengths.now c.args.places.now c.args.buffers.now c.args.body.now in
    let k = kept (goal.at.find_numbers-b-requires c).Else-q-eq0 in
    let o = its_sound _ _ x c.args.first_b c.args.n_b k.2.0 k.3 k.2.2 c.args.start c.args.end k.2.1 _ c.find_shape-q.ensures in
    record { code_value = o.is_integer_lem; first_bound = o.runs_sum; fact = o.runs_bytes }

pub sum_both-sums-requires : goal.sum_both-sums-requires
sum_both-sums-requires c =
    let x = tables_of c.args.lengths.now c.args.places.now c.args.buffers.now c.args.body.now in
    let k = kept (goal.at.sum_both-sums-requires c).Else-q-eq0 in
    record {
      start_le_end = in_range _ _ x c.args.first_a c.args.n_a k.1.0 k.3 k.1.2 c.args.start c.args.end k.1.1;
      all_ready = (
        all_ready _ _ x c.args.first_a c.args.n_a k.1.0 k.3 k.1.2 c.args.start c.args.end k.1.1 _ c.find_shape-p.ensures _ (c.find_numbers-a.ensures ∙ numbers_same _ _ _ _ c.args.first_a _),
        all_ready _ _ x c.args.first_b c.args.n_b k.2.0 k.3 k.2.2 c.args.start c.args.end k.2.1 _ c.find_shape-q.ensures _ (c.find_numbers-b.ensures ∙ numbers_same _ _ _ _ c.args.first_b _),
      );
    }

pub lift_of-requires : goal.lift_of-requires
lift_of-requires c =
    let x = tables_of c.args.lengths.now c.args.places.now c.args.buffers.now c.args.body.now in
    let k = kept (goal.at.lift_of-requires c).Else-q-eq0 in
    (its_sized _ _ x c.args.first_a c.args.n_a k.1.0 k.3 k.1.2 c.args.start c.args.end k.1.1 _ c.find_shape-p.ensures _ (c.find_numbers-a.ensures ∙ numbers_same _ _ _ _ c.args.first_a _))

pub lift_of-requires-2 : goal.lift_of-requires-2
lift_of-requires-2 c =
    let x = tables_of c.args.lengths.now c.args.places.now c.args.buffers.now c.args.body.now in
    let k = kept (goal.at.lift_of-requires-2 c).Else-q-eq0 in
    (its_sized _ _ x c.args.first_b c.args.n_b k.2.0 k.3 k.2.2 c.args.start c.args.end k.2.1 _ c.find_shape-q.ensures _ (c.find_numbers-b.ensures ∙ numbers_same _ _ _ _ c.args.first_b _))

pub ratio_of-requires : goal.ratio_of-requires
ratio_of-requires c =
    let x = tables_of c.args.lengths.now c.args.places.now c.args.buffers.now c.args.body.now in
    let k = kept (goal.at.ratio_of-requires c).Else-q-eq0 in
    let o = c.sum_both-sums.ensures in
    let r = in_range _ _ x c.args.first_a c.args.n_a k.1.0 k.3 k.1.2 c.args.start c.args.end k.1.1 in
    (low_room _ _ _ _ o.0 (shorter _ _ r.1), low_room _ _ _ _ o.1 (shorter _ _ r.1))

pub returns : goal.returns
returns c =
    let x = tables_of c.args.lengths.now c.args.places.now c.args.buffers.now c.args.body.now in
    let k = kept (goal.at.returns c).Else-q-eq0 in
    let o = c.sum_both-sums.ensures in
    let p = agreed _ _ x c.args.first_a c.args.n_a k.1.0 k.3 k.1.2 c.args.start c.args.end k.1.1 _ c.find_shape-p.ensures _ (c.find_numbers-a.ensures ∙ numbers_same _ _ _ _ c.args.first_a _) in
    let q = agreed _ _ x c.args.first_b c.args.n_b k.2.0 k.3 k.2.2 c.args.start c.args.end k.2.1 _ c.find_shape-q.ensures _ (c.find_numbers-b.ensures ∙ numbers_same _ _ _ _ c.args.first_b _) in
    let fa = row_of c.args.formats.now c.args.schema.now x c.args.first_a c.args.n_a in
    let fb = row_of c.args.formats.now c.args.schema.now x c.args.first_b c.args.n_b in
    let ca = cell_in c.args.body.now c.find_numbers-a.result in
    let cb = cell_in c.args.body.now c.find_numbers-b.result in
    c.ratio_of.ensures
    ∙ ratio_answer _ _ x c.args.first_a c.args.n_a c.args.first_b c.args.n_b c.args.start c.args.end k.0 k.1.1 k.2.1 k.1.2 k.2.2 _ _ _
    (both_count _ _ fa fb ca cb c.args.start (c.args.end - c.args.start) p q _ o.0)
    (both_sum _ _ fa fb ca cb c.args.start (c.args.end - c.args.start) p q _ o.0 (its_sized _ _ x c.args.first_a c.args.n_a k.1.0 k.3 k.1.2 c.args.start c.args.end k.1.1 _ c.find_shape-p.ensures _ (c.find_numbers-a.ensures ∙ numbers_same _ _ _ _ c.args.first_a _)) _ c.lift_of.ensures)
    (both_sum _ _ fb fa cb ca c.args.start (c.args.end - c.args.start) q p _ o.1 (its_sized _ _ x c.args.first_b c.args.n_b k.2.0 k.3 k.2.2 c.args.start c.args.end k.2.1 _ c.find_shape-q.ensures _ (c.find_numbers-b.ensures ∙ numbers_same _ _ _ _ c.args.first_b _)) _ c.lift_of-2.ensures)
