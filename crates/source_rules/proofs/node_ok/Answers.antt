-- `source_rules::node_ok` meets its contract. Assumes nothing.
use mathlib.Core.Path.{◌≡◌, ap, refl, sym, subst, ◌∙◌}
use Prim.Native.Nat.{suc, ◌+◌}
use native.Mathlib.Omega.{arith}
use native.Mathlib.Numerals.{add-one}
use lib.Dec.{eqb}
use Rattle.columnar.specs.Formed.{RunWidth}
use Rattle.schema.specs.formats.Code.{is_fixed, is_string, is_list, is_view, is_union, is_run_end, width_of}
use Rattle.schema.specs.Tree.{code_of}
use Rattle.schema.proofs.Known.{typed_shape}
use Rattle.array_data.specs.Rules.{string_rule, list_view_rule, list_rule, run_end_rule}
use Rattle.array_data.specs.lent_tables.Lent.{tables, Counted}
use Rattle.source_rules.specs.kinds.Rows.{tables_of}
use Rattle.source_rules.proofs.Node.{told, string_widths, list_widths, lists_widths, counted_as, number_as, number_last, string_node_lem, view_node_lem, list_view_node_lem, list_node_lem, run_end_node_lem, list_left, runs, ends_inside}
use Rattle.source_rules.proofs.node_ok.Goals as goal

pub returns-then-is_fixed : goal.returns-then-is_fixed
returns-then-is_fixed c =
    let z = c.args in
    let h = c.requires in
    let x = tables_of z.lengths.now z.places.now z.buffers.now z.body.now in
    number_last z.formats.now z.schema.now z.first z.n x z.i c.code_of-code.ensures c.dictionary_of-single.ensures (sym c.is_fixed.ensures ∙ c.if-is_fixed.true)
    (λ m e. c.number_ok.ensures m e ∙ number_as z.lengths.now z.places.now z.buffers.now z.body.now (z.first + z.i) (eqb c.dictionary_of-single.result 0) m)

pub returns-then-is_view : goal.returns-then-is_view
returns-then-is_view c =
    let z = c.args in
    let h = c.requires in
    let x = tables_of z.lengths.now z.places.now z.buffers.now z.body.now in
    c.view_rule.ensures ∙ sym (view_node_lem z.formats.now z.schema.now z.first z.n x z.i (told is_view _ c.code_of-code.ensures c.is_view.ensures c.if-is_view.true))

pub returns-then-is_union : goal.returns-then-is_union
returns-then-is_union c = c.union_ok.ensures c.args.buffers.now

pub returns-then-is_run_end : goal.returns-then-is_run_end
returns-then-is_run_end c =
    let z = c.args in
    let h = c.requires in
    let x = tables_of z.lengths.now z.places.now z.buffers.now z.body.now in
    let y = tables z.lengths.now z.places.now z.body.now in
    let w = c.width_of.ensures ∙ ap width_of c.code_of-ends.ensures ∙ ap (λ k. width_of (code_of z.formats.now z.schema.now z.first k)) (add-one z.i) in
    c.run_end_ok.ensures ∙ ap (run_end_rule y (z.first + z.i)) w ∙ sym (run_end_node_lem z.formats.now z.schema.now z.first z.n x z.i (told is_run_end _ c.code_of-code.ensures c.is_run_end.ensures c.if-is_run_end.true))

pub returns-then-is_string : goal.returns-then-is_string
returns-then-is_string c =
    let z = c.args in
    let h = c.requires in
    let x = tables_of z.lengths.now z.places.now z.buffers.now z.body.now in
    let y = tables z.lengths.now z.places.now z.body.now in
    c.string_ok.ensures ∙ ap (string_rule y (z.first + z.i)) (c.width_of-w.ensures ∙ ap width_of c.code_of-code.ensures) ∙ sym (string_node_lem z.formats.now z.schema.now z.first z.n x z.i (told is_string _ c.code_of-code.ensures c.is_string.ensures c.if-is_string.true))

pub returns-then-is_list : goal.returns-then-is_list
returns-then-is_list c =
    let z = c.args in
    let h = c.requires in
    let x = tables_of z.lengths.now z.places.now z.buffers.now z.body.now in
    let y = tables z.lengths.now z.places.now z.body.now in
    let is = told is_list _ c.code_of-code.ensures c.is_list.ensures c.if-is_list.true in
    c.list_ok.ensures ∙ ap (list_rule y (z.first + z.i)) (c.width_of-w.ensures ∙ ap width_of c.code_of-code.ensures) ∙ sym (list_node_lem z.formats.now z.schema.now z.first z.n x z.i is)

pub returns : goal.returns
returns c =
    let z = c.args in
    let h = c.requires in
    let x = tables_of z.lengths.now z.places.now z.buffers.now z.body.now in
    let y = tables z.lengths.now z.places.now z.body.now in
    let s = typed_shape z.formats.now z.schema.now z.first z.n h.0.is_typed z.i h.1 in
    let is = list_left z.formats.now z.schema.now z.first z.i s (told is_fixed _ c.code_of-code.ensures c.is_fixed.ensures c.if-is_fixed.false) (told is_view _ c.code_of-code.ensures c.is_view.ensures c.if-is_view.false) (told is_union _ c.code_of-code.ensures c.is_union.ensures c.if-is_union.false) (told is_run_end _ c.code_of-code.ensures c.is_run_end.ensures c.if-is_run_end.false) (told is_string _ c.code_of-code.ensures c.is_string.ensures c.if-is_string.false) (told is_list _ c.code_of-code.ensures c.is_list.ensures c.if-is_list.false) in
    c.list_view_ok.ensures ∙ ap (list_view_rule y (z.first + z.i)) (c.width_of-w.ensures ∙ ap width_of c.code_of-code.ensures) ∙ sym (list_view_node_lem z.formats.now z.schema.now z.first z.n x z.i is)

pub run_end_ok-requires : goal.run_end_ok-requires
run_end_ok-requires c =
    let z = c.args in
    let h = c.requires in
    let x = tables_of z.lengths.now z.places.now z.buffers.now z.body.now in
    let y = tables z.lengths.now z.places.now z.body.now in
    let s = typed_shape z.formats.now z.schema.now z.first z.n h.0.is_typed z.i h.1 in
    let r = runs z.formats.now z.schema.now z.first z.i s (told is_run_end _ c.code_of-code.ensures c.is_run_end.ensures c.if-is_run_end.true) in
    let l = ends_inside z.formats.now z.schema.now z.first z.n z.i h.0.is_typed h.1 r.two_below in
    let next : z.first + suc z.i ≡ z.first + z.i + 1 = omega arith in
    let w = c.width_of.ensures ∙ ap width_of c.code_of-ends.ensures ∙ ap (λ k. width_of (code_of z.formats.now z.schema.now z.first k)) (add-one z.i) in (
      counted_as x y (z.first + z.i) refl (h.0.counted z.i h.1),
      subst (Counted y) next (counted_as x y (z.first + suc z.i) refl (h.0.counted (suc z.i) l)),
      omega (arith, h.0.few, h.0.low, h.1),
      subst RunWidth (sym w) r.ends_width,
    )

pub string_ok-requires : goal.string_ok-requires
string_ok-requires c =
    let z = c.args in
    let h = c.requires in
    let x = tables_of z.lengths.now z.places.now z.buffers.now z.body.now in
    let y = tables z.lengths.now z.places.now z.body.now in
    (counted_as x y (z.first + z.i) refl (h.0.counted z.i h.1), string_widths c.code_of-code.result (sym c.is_string.ensures ∙ c.if-is_string.true) c.width_of-w.ensures)

pub list_ok-requires : goal.list_ok-requires
list_ok-requires c =
    let z = c.args in
    let h = c.requires in
    let x = tables_of z.lengths.now z.places.now z.buffers.now z.body.now in
    let y = tables z.lengths.now z.places.now z.body.now in
    let is = told is_list _ c.code_of-code.ensures c.is_list.ensures c.if-is_list.true in
    (counted_as x y (z.first + z.i) refl (h.0.counted z.i h.1), omega (arith, h.0.few, h.0.low, h.1), lists_widths (code_of z.formats.now z.schema.now z.first z.i) is (c.width_of-w.ensures ∙ ap width_of c.code_of-code.ensures))

pub list_view_ok-requires : goal.list_view_ok-requires
list_view_ok-requires c =
    let z = c.args in
    let h = c.requires in
    let x = tables_of z.lengths.now z.places.now z.buffers.now z.body.now in
    let y = tables z.lengths.now z.places.now z.body.now in
    let s = typed_shape z.formats.now z.schema.now z.first z.n h.0.is_typed z.i h.1 in
    let is = list_left z.formats.now z.schema.now z.first z.i s (told is_fixed _ c.code_of-code.ensures c.is_fixed.ensures c.if-is_fixed.false) (told is_view _ c.code_of-code.ensures c.is_view.ensures c.if-is_view.false) (told is_union _ c.code_of-code.ensures c.is_union.ensures c.if-is_union.false) (told is_run_end _ c.code_of-code.ensures c.is_run_end.ensures c.if-is_run_end.false) (told is_string _ c.code_of-code.ensures c.is_string.ensures c.if-is_string.false) (told is_list _ c.code_of-code.ensures c.is_list.ensures c.if-is_list.false) in
    (counted_as x y (z.first + z.i) refl (h.0.counted z.i h.1), omega (arith, h.0.few, h.0.low, h.1), list_widths (code_of z.formats.now z.schema.now z.first z.i) is (c.width_of-w.ensures ∙ ap width_of c.code_of-code.ensures))
