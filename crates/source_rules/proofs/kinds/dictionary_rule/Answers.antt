-- `kind_rules::dictionary_rule` meets its contract. Assumes nothing.
use mathlib.Core.Path.{sym, ◌∙◌}
use Rattle.schema.proofs.formats.Types.{number_width}
use Rattle.array_data.specs.lent_tables.Lent.{tables}
use Rattle.source_rules.specs.kinds.Rows.{Ready}
use Rattle.source_rules.proofs.kinds.Laws.{dictionary_last}
use Rattle.source_rules.proofs.kinds.dictionary_rule.Goals as goal

pub returns-then-not-one_in : goal.returns-then-not-one_in
returns-then-not-one_in c = λ n e. rw (sym c.one_in.ensures ∙ c.if-not-one_in.true)

pub returns-then-not-mask_holds : goal.returns-then-not-mask_holds
returns-then-not-mask_holds c =
    let a = c.args in
    let x = tables a.lengths.now a.places.now a.body.now in
    let h = sym c.one_in.ensures ∙ c.if-not-one_in.false in
    λ n e. rw (h, sym c.mask_holds.ensures ∙ c.if-not-mask_holds.true)

pub returns : goal.returns
returns c =
    let a = c.args in
    let x = tables a.lengths.now a.places.now a.body.now in
    let h = sym c.one_in.ensures ∙ c.if-not-one_in.false in
    let ready : Ready x a.k = record { counted = c.requires.0; inside = h; masked = sym c.mask_holds.ensures ∙ c.if-not-mask_holds.false } in
    λ n e.
    let w = number_width a.code n e ∙ sym c.width_of.ensures in
    dictionary_last x a.k n ready w (c.key_bound-bound.ensures n e) c.length_of.ensures (c.keys_ok.ensures n w)
