-- `parts::part_within` meets its contract. Assumes nothing.
use mathlib.Core.Path.{◌∙◌}
use native.Mathlib.Omega.{arith}
use Rattle.array_data.proofs.lent_tables.Laws.{no, yes}
use Rattle.plan.proofs.parts.Laws.{within_none, within_past, within_in}
use Rattle.plan.proofs.parts.part_within.Goals as goal

pub returns-then-not-has_part : goal.returns-then-not-has_part
returns-then-not-has_part c =
    let a = c.args in
    within_none a.plan.now a.parts.now a.m a.i a.b (no c.has_part.ensures c.if-not-has_part.true-raw)

pub returns-then-parts-p : goal.returns-then-parts-p
returns-then-parts-p c =
    let a = c.args in
    within_past a.plan.now a.parts.now a.m a.i a.b (yes c.has_part.ensures c.if-not-has_part.false-raw) c.number_of-p.ensures.value (omega arith)

pub returns : goal.returns
returns c =
    let a = c.args in
    c.in_room.ensures ∙ within_in a.plan.now a.parts.now a.m a.i a.b (yes c.has_part.ensures c.if-not-has_part.false-raw) c.number_of-p.ensures.value (omega arith)
