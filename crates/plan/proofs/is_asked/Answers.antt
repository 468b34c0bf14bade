-- `plan::is_asked` meets its contract. Assumes nothing.
use Prim.Native.Nat.{◌-◌}
use native.Mathlib.Omega.{arith}
use Rattle.plan.proofs.Laws.{asked_root, asked_values, asked_above}
use Rattle.plan.proofs.is_asked.Goals as goal

pub returns-then-i-eq0 : goal.returns-then-i-eq0
returns-then-i-eq0 c = let z = c.args in asked_root z.plan.now z.keep z.i c.if-i-eq0.true

pub returns-then-dictionary_of-ne0 : goal.returns-then-dictionary_of-ne0
returns-then-dictionary_of-ne0 c =
    let z = c.args in
    asked_values z.plan.now z.keep z.i (z.i - 1) (omega arith) c.dictionary_of.ensures c.if-dictionary_of-ne0.true

pub returns : goal.returns
returns c =
    let z = c.args in
    asked_above z.plan.now z.keep z.i (z.i - 1) (omega arith) c.dictionary_of.ensures c.if-dictionary_of-ne0.false c.parent_of.ensures.value c.keeps_of.ensures
