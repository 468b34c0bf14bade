-- `result_plan::write_dictionaries` meets its contract. The invariant: the first i nodes have their word. Assumes nothing.
use Prim.Native.Nat.{◌+◌, ◌*◌, ◌-◌}
use native.Mathlib.Omega.{arith}
use Rattle.anew.specs.ResultPlan.{dictionary_word, with_dictionaries}
use Rattle.plan.proofs.Laws.{filled_none, filled_more, filled_all}
use Rattle.anew.proofs.result_plan.write_dictionaries.Goals as goal

pub loop-i-init : goal.loop-i-init
loop-i-init c =
    let z = c.args in
    filled_none (λ k. 8 * k + 7) (dictionary_word z.joined) z.words.now

pub dictionary_word-requires : goal.dictionary_word-requires
dictionary_word-requires c = omega arith

pub overflow_mul-words : goal.overflow_mul-words
overflow_mul-words c = omega arith

pub overflow_add-words : goal.overflow_add-words
overflow_add-words c = omega arith

pub offset_bounds-words-i : goal.offset_bounds-words-i
offset_bounds-words-i c = omega arith

pub bounds-words-i : goal.bounds-words-i
bounds-words-i c = omega arith

pub loop-i-preserved : goal.loop-i-preserved
loop-i-preserved c =
    let z = c.args in
    let l = c.loop-i in
    filled_more (λ k. 8 * k + 7) (dictionary_word z.joined) l.i z.words.now l.words l.invariant c.dictionary_word.ensures

pub returns : goal.returns
unfolding with_dictionaries
returns c =
    let z = c.args in
    let l = c.loop-i in
    filled_all (λ k. 8 * k + 7) (dictionary_word z.joined) l.i z.n z.words.now l.words (omega arith) l.invariant
