-- `source_rules::number_ok` meets its contract. Assumes nothing.
use mathlib.Core.Path.{ap, sym, ◌∙◌}
use Rattle.schema.proofs.formats.Types.{number_width}
use Rattle.array_data.specs.lent_tables.Lent.{tables}
use Rattle.source_rules.specs.Source.{number_rule}
use Rattle.source_rules.proofs.number_ok.Goals as goal

pub returns-then-single : goal.returns-then-single
returns-then-single c =
    let z = c.args in
    λ m e. c.fixed_rule.ensures m (number_width z.code m e ∙ sym c.width_of.ensures) ∙ ap (λ b. number_rule (tables z.lengths.now z.places.now z.body.now) z.k b m) (sym c.if-single.true)

pub returns : goal.returns
returns c =
    let z = c.args in
    λ m e. c.dictionary_rule.ensures m e ∙ ap (λ b. number_rule (tables z.lengths.now z.places.now z.body.now) z.k b m) (sym c.if-single.false)
