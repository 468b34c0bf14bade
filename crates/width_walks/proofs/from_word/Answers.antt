-- `width_walks::from_word` meets its contract. Assumes nothing.
use mathlib.Core.Path.{sym, ◌∙◌}
use Rattle.width_walks.proofs.From.{none_word, own_word}
use Rattle.width_walks.proofs.from_word.Goals as goal

pub returns-then-is_ends_at : goal.returns-then-is_ends_at
returns-then-is_ends_at c =
    let z = c.args in
    none_word z.formats.now z.schema.now z.first z.i (sym c.is_ends_at.ensures ∙ c.if-is_ends_at.true)

pub returns : goal.returns
returns c =
    let z = c.args in
    own_word z.formats.now z.schema.now z.first z.i (sym c.is_ends_at.ensures ∙ c.if-is_ends_at.false)
