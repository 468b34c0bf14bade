-- `plan::keep_word` meets its contract. Assumes nothing.
use mathlib.Core.Path.{◌∙◌}
use Rattle.array_data.specs.lent_tables.Lent.{tables}
use Rattle.plan.proofs.Laws.{byte_flag, keep_ends, keep_by}
use Rattle.plan.proofs.keep_word.Goals as goal

pub returns-then-is_ends : goal.returns-then-is_ends
returns-then-is_ends c =
    let z = c.args in
    keep_ends (tables z.lengths.now z.places.now z.body.now) z.sources.now z.m z.keep z.plan.now z.i c.is_ends.ensures c.if-is_ends.true

pub returns : goal.returns
returns c =
    let z = c.args in
    byte_flag c.keeps.result ∙ keep_by (tables z.lengths.now z.places.now z.body.now) z.sources.now z.m z.keep z.plan.now z.i c.is_ends.ensures c.if-is_ends.false c.is_asked-above.ensures c.keeps.ensures
