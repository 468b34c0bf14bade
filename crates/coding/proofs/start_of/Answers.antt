-- `coding::start_of` meets its contract. Assumes nothing.
use native.Mathlib.Omega.{arith}
use Rattle.walk.proofs.plan_words.Laws.{part_start}
use Rattle.coding.proofs.start_of.Goals as goal

pub returns-then-p-eq0 : goal.returns-then-p-eq0
returns-then-p-eq0 c =
    let a = c.args in
    part_start a.plan.now a.parts.now a.i a.b c.part_of.ensures.value c.at_u64.ensures (omega arith)

pub returns : goal.returns
returns c =
    let a = c.args in
    part_start a.plan.now a.parts.now a.i a.b c.part_of.ensures.value c.at_u64-2.ensures (omega arith)
