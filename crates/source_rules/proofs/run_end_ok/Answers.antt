-- `source_rules::run_end_ok` meets its contract. Assumes nothing.
use mathlib.Core.Path.{ap, sym, ◌∙◌}
use Rattle.array_data.specs.Rules.{run_end_rule}
use Rattle.array_data.specs.lent_tables.Lent.{tables}
use Rattle.source_rules.proofs.Node.{not_two_four}
use Rattle.source_rules.proofs.run_end_ok.Goals as goal

pub returns-then-w-eq2 : goal.returns-then-w-eq2
returns-then-w-eq2 c =
    let a = c.args in
    c.run_end_rule.ensures ∙ ap (run_end_rule (tables a.lengths.now a.places.now a.body.now) a.k) (sym c.if-w-eq2.true)

pub returns-then-w-eq4 : goal.returns-then-w-eq4
returns-then-w-eq4 c =
    let a = c.args in
    c.run_end_rule-then-w-eq4.ensures ∙ ap (run_end_rule (tables a.lengths.now a.places.now a.body.now) a.k) (sym c.if-w-eq4.true)

pub returns : goal.returns
returns c =
    let a = c.args in
    c.run_end_rule-2.ensures ∙ ap (run_end_rule (tables a.lengths.now a.places.now a.body.now) a.k) (sym (not_two_four c.requires.3 c.if-w-eq2.false c.if-w-eq4.false))
