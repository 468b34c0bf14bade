-- `node_table::id_under` meets its contract. Assumes nothing.
use mathlib.Core.Path.{◌≡◌, ap, refl, sym, ◌∙◌}
use native.Mathlib.Omega.{arith}
use lib.ListN.{length, replicate, length-take}
use Rattle.schema.specs.union_ids.Ids.{ids_at}
use Rattle.schema.proofs.union_ids.Same.{fine, written_length, count_fine}
use Rattle.array_data.proofs.node_words.Laws.{no_id, under}
use Rattle.array_data.proofs.node_words.id_under.Goals as goal

pub returns-in_default : goal.returns-in_default
returns-in_default c =
    let z = c.args in
    sym (no_id z.formats.now z.schema.now z.first z.n z.p z.i _ _ c.get-at.ensures c.get-len.ensures _ c.union_ids.ensures.value c.in_default.is)

pub slice_bounds-id_among-end : goal.slice_bounds-id_among-end
slice_bounds-id_among-end c =
    let z = c.args in
    let o = ids_at z.formats.now c.get-at.result c.get-len.result in
    let h = fine z.formats.now c.get-at.result c.get-len.result in
    let size : length c.union_ids.new.ids ≡ 16 = ap length c.union_ids.ensures.ids_after ∙ written_length o (replicate 16 0) h refl in
    omega (arith, count_fine o _ _ c.union_ids.ensures.value c.in-Some.is h, size, length-take c.in-Some.k c.union_ids.new.ids)

pub returns : goal.returns
returns c =
    let z = c.args in
    c.id_among.ensures ∙ under z.formats.now z.schema.now z.first z.n z.p z.i _ _ c.get-at.ensures c.get-len.ensures _ _ (replicate 16 0) _ c.union_ids.ensures.value c.in-Some.is c.union_ids.ensures.ids_after
