-- `kind_rules::dense_rule` meets its contract. Assumes nothing.
use Rattle.array_data.specs.lent_tables.Lent.{tables}
use mathlib.Core.Path.{sym, ◌∙◌}
use Rattle.source_rules.proofs.kinds.Laws.{dense_last}
use Rattle.source_rules.proofs.kinds.dense_rule.Goals as goal

pub returns-then-not-two_in : goal.returns-then-not-two_in
returns-then-not-two_in c = λ node sizes. rw (sym c.two_in.ensures ∙ c.if-not-two_in.true)

pub returns-then-not-no_mask : goal.returns-then-not-no_mask
returns-then-not-no_mask c =
    let a = c.args in
    let x = tables a.lengths.now a.places.now a.body.now in
    let h = sym c.two_in.ensures ∙ c.if-not-two_in.false in
    λ node sizes. rw (h, sym c.no_mask.ensures ∙ c.if-not-no_mask.true)

pub returns : goal.returns
returns c =
    let a = c.args in
    let x = tables a.lengths.now a.places.now a.body.now in
    let h = sym c.two_in.ensures ∙ c.if-not-two_in.false in
    λ node sizes. dense_last x a.k a.ids.now a.lens.now (sym c.no_mask.ensures ∙ c.if-not-no_mask.false) node sizes h c.dense_rows.ensures
