-- `kind_rules::sparse_rule` meets its contract. Assumes nothing.
use Rattle.array_data.specs.lent_tables.Lent.{tables}
use mathlib.Core.Path.{sym, ◌∙◌}
use Rattle.source_rules.proofs.kinds.Laws.{sparse_last}
use Rattle.source_rules.proofs.kinds.sparse_rule.Goals as goal

pub returns-then-not-one_in : goal.returns-then-not-one_in
returns-then-not-one_in c = λ node sizes. rw (sym c.one_in.ensures ∙ c.if-not-one_in.true)

pub returns-then-not-no_mask : goal.returns-then-not-no_mask
returns-then-not-no_mask c =
    let a = c.args in
    let x = tables a.lengths.now a.places.now a.body.now in
    let h = sym c.one_in.ensures ∙ c.if-not-one_in.false in
    λ node sizes. rw (h, sym c.no_mask.ensures ∙ c.if-not-no_mask.true)

pub returns : goal.returns
returns c =
    let a = c.args in
    let x = tables a.lengths.now a.places.now a.body.now in
    let h = sym c.one_in.ensures ∙ c.if-not-one_in.false in
    λ node sizes. sparse_last x a.k a.ids.now a.lens.now (sym c.no_mask.ensures ∙ c.if-not-no_mask.false) node sizes h c.sparse_rows.ensures
