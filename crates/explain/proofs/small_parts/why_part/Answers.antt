-- `explain::small_parts::why_part` meets its contract. Assumes nothing.
use mathlib.Core.Path.{◌∙◌}
use Prim.Native.Nat.{◌+◌}
use Rattle.explain.proofs.small_parts.Laws.{part_on, part_over}
use Rattle.explain.proofs.small_parts.why_part.Goals as goal

pub returns-then-part_holds : goal.returns-then-part_holds
returns-then-part_holds c =
    let a = c.args in
    c.plain.ensures ∙ part_on a.plan.now a.counters.now a.parts.now (a.r + a.n) a.i a.b c.part_holds.ensures c.if-part_holds.true

pub returns : goal.returns
returns c =
    let a = c.args in
    part_over a.plan.now a.counters.now a.parts.now (a.r + a.n) a.i a.b c.part_holds.ensures c.if-part_holds.false (c.bytes_due.ensures a.parts.now) c.size_of.ensures
