-- `format_ids::same_ids` meets its contract. Assumes nothing.
use mathlib.Core.Path.{◌≡◌, ap, refl, sym, ◌∙◌}
use native.Mathlib.Omega.{arith}
use lib.ListN.{length, length-take, replicate}
use Rattle.schema.specs.union_ids.Ids.{ids_at}
use Rattle.schema.proofs.union_ids.Same.{fine, written_length, bad_first, bad_second, compared, count_fine}
use Rattle.schema.proofs.union_ids.same_ids.Goals as goal

pub returns-in_default : goal.returns-in_default
returns-in_default c =
    let z = c.args in
    let o = ids_at z.formats.now z.at z.len in
    let o2 = ids_at z.formats.now z.at2 z.len2 in
    sym (bad_first o o2 _ c.union_ids.ensures.value c.in_default.is)

pub returns-in_default-union_ids : goal.returns-in_default-union_ids
returns-in_default-union_ids c =
    let z = c.args in
    let o = ids_at z.formats.now z.at z.len in
    let o2 = ids_at z.formats.now z.at2 z.len2 in
    sym (bad_second o o2 _ c.union_ids-2.ensures.value c.in_default-union_ids.is)

pub slice_bounds-eq-end : goal.slice_bounds-eq-end
slice_bounds-eq-end c =
    let z = c.args in
    let o = ids_at z.formats.now z.at z.len in
    let h = fine z.formats.now z.at z.len in
    let size : length c.union_ids.new.ids ≡ 16 = ap length c.union_ids.ensures.ids_after ∙ written_length o (replicate 16 0) h refl in
    omega (arith, count_fine o _ _ c.union_ids.ensures.value c.in-Some.is h, size, length-take c.in-Some.k c.union_ids.new.ids)

pub slice_bounds-eq-end-2 : goal.slice_bounds-eq-end-2
slice_bounds-eq-end-2 c =
    let z = c.args in
    let o = ids_at z.formats.now z.at2 z.len2 in
    let h = fine z.formats.now z.at2 z.len2 in
    let size : length c.union_ids-2.new.ids ≡ 16 = ap length c.union_ids-2.ensures.ids_after ∙ written_length o (replicate 16 0) h refl in
    omega (arith, count_fine o _ _ c.union_ids-2.ensures.value c.in-Some-union_ids.is h, size, length-take c.in-Some-union_ids.m c.union_ids-2.new.ids)

pub returns : goal.returns
returns c =
    let z = c.args in
    let o = ids_at z.formats.now z.at z.len in
    let o2 = ids_at z.formats.now z.at2 z.len2 in
    c.eq.ensures
    ∙ compared o o2 _ _ _ _ (replicate 16 0) (replicate 16 0) _ _ c.union_ids.ensures.value c.in-Some.is c.union_ids-2.ensures.value c.in-Some-union_ids.is c.union_ids.ensures.ids_after c.union_ids-2.ensures.ids_after
