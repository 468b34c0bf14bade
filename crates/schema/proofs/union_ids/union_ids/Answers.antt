-- `format_ids::union_ids` meets its contract. Assumes nothing.
use mathlib.Core.Path.{◌≡◌, ap, sym, ◌∙◌}
use mathlib.Core.Bool.{true, false}
use native.Mathlib.Omega.{arith}
use borrow.Author.Tests.{not-true, not-false}
use Rattle.schema.specs.formats.Code.{code_at, is_union}
use Rattle.schema.proofs.formats.Laws.{union_inside}
use Rattle.schema.proofs.union_ids.Read.{bad, same_answer, ids_other, ids_union}
use Rattle.schema.proofs.union_ids.union_ids.Goals as goal

pub returns-then-not-is_union : goal.returns-then-not-is_union
returns-then-not-is_union c =
    let z = c.args in
    let u : is_union (code_at z.formats.now z.at z.len) ≡ false = ap is_union (sym c.format_code.ensures) ∙ sym c.is_union.ensures ∙ not-true _ c.if-not-is_union.true-raw in
    let both = bad _ z.ids.now (ids_other z.formats.now z.at z.len u) in record { value = both.0; ids_after = both.1 }

pub overflow_add-from : goal.overflow_add-from
overflow_add-from c =
    let z = c.args in
    let u : is_union (code_at z.formats.now z.at z.len) ≡ true = ap is_union (sym c.format_code.ensures) ∙ sym c.is_union.ensures ∙ not-false _ c.if-not-is_union.false-raw in
    omega (arith, union_inside z.formats.now z.at z.len u)

pub overflow_add-end : goal.overflow_add-end
overflow_add-end c =
    let z = c.args in
    let u : is_union (code_at z.formats.now z.at z.len) ≡ true = ap is_union (sym c.format_code.ensures) ∙ sym c.is_union.ensures ∙ not-false _ c.if-not-is_union.false-raw in
    omega (arith, union_inside z.formats.now z.at z.len u)

pub slice_bounds-read_ids-count : goal.slice_bounds-read_ids-count
slice_bounds-read_ids-count c =
    let z = c.args in
    let u : is_union (code_at z.formats.now z.at z.len) ≡ true = ap is_union (sym c.format_code.ensures) ∙ sym c.is_union.ensures ∙ not-false _ c.if-not-is_union.false-raw in
    omega (arith, union_inside z.formats.now z.at z.len u)

pub slice_bounds-read_ids-start : goal.slice_bounds-read_ids-start
slice_bounds-read_ids-start c =
    let z = c.args in
    let u : is_union (code_at z.formats.now z.at z.len) ≡ true = ap is_union (sym c.format_code.ensures) ∙ sym c.is_union.ensures ∙ not-false _ c.if-not-is_union.false-raw in
    omega (arith, union_inside z.formats.now z.at z.len u)

pub slice_bounds-read_ids-end : goal.slice_bounds-read_ids-end
slice_bounds-read_ids-end c =
    let z = c.args in
    let u : is_union (code_at z.formats.now z.at z.len) ≡ true = ap is_union (sym c.format_code.ensures) ∙ sym c.is_union.ensures ∙ not-false _ c.if-not-is_union.false-raw in
    omega (arith, union_inside z.formats.now z.at z.len u)

pub returns : goal.returns
returns c =
    let z = c.args in
    let u : is_union (code_at z.formats.now z.at z.len) ≡ true = ap is_union (sym c.format_code.ensures) ∙ sym c.is_union.ensures ∙ not-false _ c.if-not-is_union.false-raw in
    let both = same_answer _ _ _ _ _ (ids_union z.formats.now z.at z.len u) (c.read_ids.ensures.value, c.read_ids.ensures.ids_after) in record { value = both.0; ids_after = both.1 }
