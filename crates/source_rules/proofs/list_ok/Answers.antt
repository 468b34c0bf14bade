-- `source_rules::list_ok` meets its contract. Assumes nothing.
use mathlib.Core.Path.{ap, sym, ◌∙◌}
use Rattle.array_data.specs.Rules.{list_rule}
use Rattle.array_data.specs.lent_tables.Lent.{tables}
use Rattle.source_rules.proofs.Node.{not_four}
use Rattle.source_rules.proofs.list_ok.Goals as goal

pub returns-then-w-eq4 : goal.returns-then-w-eq4
returns-then-w-eq4 c =
    let a = c.args in
    c.list_rule.ensures ∙ ap (list_rule (tables a.lengths.now a.places.now a.body.now) a.k) (sym c.if-w-eq4.true)

pub returns : goal.returns
returns c =
    let a = c.args in
    c.list_rule-2.ensures ∙ ap (list_rule (tables a.lengths.now a.places.now a.body.now) a.k) (sym (not_four c.requires.2 c.if-w-eq4.false))
