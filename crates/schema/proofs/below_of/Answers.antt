-- `schema::below_of` meets its contract. Assumes nothing.
use native.Mathlib.Omega.{arith}
use Rattle.schema.proofs.Laws.{below_none, below_values}
use Rattle.schema.proofs.below_of.Goals as goal

pub returns-then-dictionary_of-eq0 : goal.returns-then-dictionary_of-eq0
returns-then-dictionary_of-eq0 c = let z = c.args in record { value = omega (arith, below_none z.schema.now z.first z.i _ c.dictionary_of.ensures c.if-dictionary_of-eq0.true); upper_bound = omega (arith, below_none z.schema.now z.first z.i _ c.dictionary_of.ensures c.if-dictionary_of-eq0.true) }

pub returns-else-dictionary_of-eq0 : goal.returns-else-dictionary_of-eq0
returns-else-dictionary_of-eq0 c = let z = c.args in record { value = omega (arith, below_values z.schema.now z.first z.i _ c.dictionary_of.ensures c.if-dictionary_of-eq0.false); upper_bound = omega (arith, below_values z.schema.now z.first z.i _ c.dictionary_of.ensures c.if-dictionary_of-eq0.false) }
