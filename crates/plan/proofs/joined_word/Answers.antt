-- `plan::joined_word` meets its contract. Assumes nothing.
use mathlib.Core.Path.{◌∙◌}
use mathlib.Core.Bool.{not}
use Rattle.array_data.specs.lent_tables.Lent.{tables}
use Rattle.plan.proofs.Laws.{byte_flag, joined_none, joined_by, shared_at}
use Rattle.plan.proofs.joined_word.Goals as goal

pub returns-then-dictionary_of-eq0 : goal.returns-then-dictionary_of-eq0
returns-then-dictionary_of-eq0 c =
    let z = c.args in
    joined_none (tables z.lengths.now z.places.now z.body.now) z.sources.now z.m z.plan.now z.i c.dictionary_of.ensures c.if-dictionary_of-eq0.true

pub returns : goal.returns
returns c =
    let z = c.args in
    let x = tables z.lengths.now z.places.now z.body.now in
    byte_flag (not c.all_share.result) ∙ joined_by x z.sources.now z.m z.plan.now z.i c.dictionary_of.ensures c.if-dictionary_of-eq0.false (shared_at x z.sources.now z.m z.plan.now z.i c.has_strings-string.ensures c.all_share.ensures)
