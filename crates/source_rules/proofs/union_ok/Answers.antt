-- `source_rules::union_ok` meets its contract. Assumes nothing.
use mathlib.Core.Path.{ap, refl, sym, ◌∙◌}
use native.Mathlib.Omega.{arith}
use lib.ListN.{length, replicate}
use Rattle.schema.specs.union_ids.Ids.{ids_at}
use Rattle.schema.proofs.union_ids.Same.{fine, written_length, count_fine}
use Rattle.schema.proofs.Known.{typed_shape}
use Rattle.source_rules.specs.kinds.Rows.{tables_of}
use Rattle.source_rules.proofs.Union.{ids_part, no_bad, sparse_last, dense_last}
use Rattle.source_rules.proofs.union_ok.Goals as goal

pub returns-in_default : goal.returns-in_default
returns-in_default c =
    let z = c.args in
    let h = c.requires in
    let s = typed_shape z.formats.now z.schema.now z.first z.n h.0.is_typed z.i h.1 in
    λ u. absurd (no_bad z.formats.now z.schema.now z.first z.n (tables_of z.lengths.now z.places.now u z.body.now) z.i c.get-at.result c.get-len.result c.get-at.ensures c.get-len.ensures s h.2 _ c.union_ids.ensures.value c.in_default.is)

pub slice_bounds-sparse_rule-end : goal.slice_bounds-sparse_rule-end
slice_bounds-sparse_rule-end c =
    let z = c.args in
    let o = ids_at z.formats.now c.get-at.result c.get-len.result in
    let f = fine z.formats.now c.get-at.result c.get-len.result in
    omega (arith, count_fine o _ _ c.union_ids.ensures.value c.in-Some.is f, ap length c.union_ids.ensures.ids_after ∙ written_length o (replicate 16 0) f refl)

pub returns-then-sparse : goal.returns-then-sparse
returns-then-sparse c =
    let z = c.args in
    let h = c.requires in
    let s = typed_shape z.formats.now z.schema.now z.first z.n h.0.is_typed z.i h.1 in
    let o = ids_at z.formats.now c.get-at.result c.get-len.result in
    λ u. sparse_last z.formats.now z.schema.now z.first z.n (tables_of z.lengths.now z.places.now u z.body.now) z.i c.get-at.result c.get-len.result c.get-at.ensures c.get-len.ensures s h.2 _ c.union_ids.ensures.value _ c.in-Some.is _
    (ids_part o _ (replicate 16 0) _ (sym c.union_ids.ensures.value ∙ c.in-Some.is) c.union_ids.ensures.ids_after) c.field_lengths-lens.result c.field_lengths-lens.ensures (sym h.3 ∙ c.if-sparse.true) c.sparse_rule.ensures

pub slice_bounds-dense_rule-end : goal.slice_bounds-dense_rule-end
slice_bounds-dense_rule-end c =
    let z = c.args in
    let o = ids_at z.formats.now c.get-at.result c.get-len.result in
    let f = fine z.formats.now c.get-at.result c.get-len.result in
    omega (arith, count_fine o _ _ c.union_ids.ensures.value c.in-Some.is f, ap length c.union_ids.ensures.ids_after ∙ written_length o (replicate 16 0) f refl)

pub returns : goal.returns
returns c =
    let z = c.args in
    let h = c.requires in
    let s = typed_shape z.formats.now z.schema.now z.first z.n h.0.is_typed z.i h.1 in
    let o = ids_at z.formats.now c.get-at.result c.get-len.result in
    λ u. dense_last z.formats.now z.schema.now z.first z.n (tables_of z.lengths.now z.places.now u z.body.now) z.i c.get-at.result c.get-len.result c.get-at.ensures c.get-len.ensures s h.2 _ c.union_ids.ensures.value _ c.in-Some.is _
    (ids_part o _ (replicate 16 0) _ (sym c.union_ids.ensures.value ∙ c.in-Some.is) c.union_ids.ensures.ids_after) c.field_lengths-lens.result c.field_lengths-lens.ensures (sym h.3 ∙ c.if-sparse.false) c.dense_rule.ensures
