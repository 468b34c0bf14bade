-- `kind_rules::view_rule` meets its contract. Assumes nothing.
use Rattle.source_rules.specs.kinds.Rows.{tables_of, Ready}
use mathlib.Core.Path.{sym, ◌∙◌}
use Rattle.source_rules.proofs.kinds.Laws.{view_last}
use Rattle.source_rules.proofs.kinds.view_rule.Goals as goal

pub returns-then-not-one_in : goal.returns-then-not-one_in
returns-then-not-one_in c = rw (sym c.one_in.ensures ∙ c.if-not-one_in.true)

pub returns-then-not-buffers_in : goal.returns-then-not-buffers_in
returns-then-not-buffers_in c =
    let a = c.args in
    let x = tables_of a.lengths.now a.places.now a.buffers.now a.body.now in
    let h = sym c.one_in.ensures ∙ c.if-not-one_in.false in
    rw (h, sym c.buffers_in.ensures ∙ c.if-not-buffers_in.true)

pub returns-then-not-mask_holds : goal.returns-then-not-mask_holds
returns-then-not-mask_holds c =
    let a = c.args in
    let x = tables_of a.lengths.now a.places.now a.buffers.now a.body.now in
    let h = sym c.one_in.ensures ∙ c.if-not-one_in.false in
    let g = sym c.buffers_in.ensures ∙ c.if-not-buffers_in.false in
    rw (h, g, sym c.mask_holds.ensures ∙ c.if-not-mask_holds.true)

pub returns : goal.returns
returns c =
    let a = c.args in
    let x = tables_of a.lengths.now a.places.now a.buffers.now a.body.now in
    let h = sym c.one_in.ensures ∙ c.if-not-one_in.false in
    let g = sym c.buffers_in.ensures ∙ c.if-not-buffers_in.false in
    let ready : Ready x a.k = record { counted = c.requires; inside = h; masked = sym c.mask_holds.ensures ∙ c.if-not-mask_holds.false } in
    view_last x a.k (λ i. (c.shared_slice_known-4-1.given i).fits) ready g c.view_rows.ensures
