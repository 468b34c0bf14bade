-- `result_plan::dictionary_word` meets its contract. Assumes nothing.
use mathlib.Core.Path.{sym, ap, ◌∙◌}
use Rattle.plan.specs.Plan.{flag}
use Rattle.anew.proofs.result_plan.Laws.{dictionary_none, dictionary_by}
use Rattle.anew.proofs.result_plan.dictionary_word.Goals as goal

pub returns-then-dictionary_of-eq0 : goal.returns-then-dictionary_of-eq0
returns-then-dictionary_of-eq0 c =
    let z = c.args in
    dictionary_none z.joined z.words.now z.i c.dictionary_of.ensures c.if-dictionary_of-eq0.true

pub returns-then-joined : goal.returns-then-joined
returns-then-joined c =
    let z = c.args in
    sym (ap flag c.if-joined.true) ∙ dictionary_by z.joined z.words.now z.i c.dictionary_of.ensures c.if-dictionary_of-eq0.false

pub returns : goal.returns
returns c =
    let z = c.args in
    sym (ap flag c.if-joined.false) ∙ dictionary_by z.joined z.words.now z.i c.dictionary_of.ensures c.if-dictionary_of-eq0.false
