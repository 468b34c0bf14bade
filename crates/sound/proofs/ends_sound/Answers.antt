-- `sound::ends_sound` meets its contract. Assumes nothing.
use native.Mathlib.Omega.{arith}
use Rattle.sound.proofs.Laws.{ends_past, ends_keyed, ends_by}
use Rattle.sound.proofs.ends_sound.Goals as goal

pub returns-then-end_of-i : goal.returns-then-end_of-i
returns-then-end_of-i c = let z = c.args in ends_past z.plan.now z.i c.end_of.ensures.value c.if-end_of-i.true

pub overflow_add-i-2 : goal.overflow_add-i-2
overflow_add-i-2 c = omega (arith, c.end_of.ensures.upper_bound)

pub dictionary_of-requires : goal.dictionary_of-requires
dictionary_of-requires c = omega (arith, c.end_of.ensures.upper_bound)

pub returns-then-dictionary_of-ne0 : goal.returns-then-dictionary_of-ne0
returns-then-dictionary_of-ne0 c = let z = c.args in ends_keyed z.plan.now z.i c.end_of.ensures.value c.if-end_of-i.false c.dictionary_of.ensures c.if-dictionary_of-ne0.true

pub overflow_add-i-3 : goal.overflow_add-i-3
overflow_add-i-3 c = omega (arith, c.end_of.ensures.upper_bound)

pub code_of-requires : goal.code_of-requires
code_of-requires c = omega (arith, c.end_of.ensures.upper_bound)

pub returns : goal.returns
returns c = let z = c.args in ends_by z.plan.now z.i c.end_of.ensures.value c.if-end_of-i.false c.dictionary_of.ensures c.if-dictionary_of-ne0.false c.code_of.ensures c.is_fixed.ensures
