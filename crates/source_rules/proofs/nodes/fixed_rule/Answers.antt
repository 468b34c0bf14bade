-- `node_rules::fixed_rule` meets its contract. Assumes nothing.
use Rattle.array_data.specs.lent_tables.Lent.{tables}
use mathlib.Core.Path.{sym, ◌∙◌}
use Rattle.source_rules.proofs.nodes.Laws.{fixed_last}
use Rattle.source_rules.proofs.nodes.fixed_rule.Goals as goal

pub returns-then-not-one_in : goal.returns-then-not-one_in
returns-then-not-one_in c = λ n e. rw (sym c.one_in.ensures ∙ c.if-not-one_in.true)

pub returns-then-not-mask_holds : goal.returns-then-not-mask_holds
returns-then-not-mask_holds c = λ n e. rw (sym c.one_in.ensures ∙ c.if-not-one_in.false, sym c.mask_holds.ensures ∙ c.if-not-mask_holds.true)

pub returns : goal.returns
returns c =
    let a = c.args in
    let x = tables a.lengths.now a.places.now a.body.now in
    fixed_last x a.k
    (sym c.one_in.ensures ∙ c.if-not-one_in.false) (sym c.mask_holds.ensures ∙ c.if-not-mask_holds.false) c.rows_fit.ensures c.count_of.ensures c.place.ensures
