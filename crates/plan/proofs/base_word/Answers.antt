-- `plan::base_word` meets its contract. Assumes nothing.
use Rattle.array_data.specs.lent_tables.Lent.{tables}
use Rattle.plan.proofs.Laws.{base_view, base_none, base_keys, start_at_lem}
use Rattle.plan.proofs.base_word.Goals as goal

pub returns-then-is_view : goal.returns-then-is_view
returns-then-is_view c =
    let z = c.args in
    base_view (tables z.lengths.now z.places.now z.body.now) z.sources.now z.m z.plan.now z.i z.s c.code_of.ensures c.is_view.ensures c.if-is_view.true c.buffers_up_to.ensures.value

pub returns-then-dictionary_of-eq0 : goal.returns-then-dictionary_of-eq0
returns-then-dictionary_of-eq0 c =
    let z = c.args in
    base_none (tables z.lengths.now z.places.now z.body.now) z.sources.now z.m z.plan.now z.i z.s c.code_of.ensures c.is_view.ensures c.if-is_view.false c.dictionary_of.ensures c.if-dictionary_of-eq0.true

pub returns : goal.returns
returns c =
    let z = c.args in
    let x = tables z.lengths.now z.places.now z.body.now in
    base_keys x z.sources.now z.m z.plan.now z.i z.s c.code_of.ensures c.is_view.ensures c.if-is_view.false c.dictionary_of.ensures c.if-dictionary_of-eq0.false (start_at_lem x z.sources.now z.m z.plan.now z.i z.s c.has_strings-string.ensures c.start_of_keys.ensures)
