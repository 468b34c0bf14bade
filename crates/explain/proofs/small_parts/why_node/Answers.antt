-- `explain::small_parts::why_node` meets its contract. Assumes nothing.
use mathlib.Core.Path.{sym, ◌∙◌}
use Prim.Native.Nat.{◌+◌}
use native.Mathlib.Omega.{arith}
use Rattle.explain.proofs.small_parts.Laws.{part_stops, part_goes}
use Rattle.explain.proofs.small_parts.why_node.Goals as goal

pub why_part-validity-requires : goal.why_part-validity-requires
why_part-validity-requires c = (c.requires.0, omega arith, c.requires.1 0 (omega arith))

pub returns-then-validity-ne0 : goal.returns-then-validity-ne0
returns-then-validity-ne0 c =
    let a = c.args in
    sym (part_stops a.plan.now a.counters.now a.parts.now (a.r + a.n) a.i 0 c.why_part-validity.ensures c.if-validity-ne0.true _)

pub why_part-first-requires : goal.why_part-first-requires
why_part-first-requires c = (c.requires.0, omega arith, c.requires.1 1 (omega arith))

pub returns-then-first-ne0 : goal.returns-then-first-ne0
returns-then-first-ne0 c =
    let a = c.args in
    sym (part_goes a.plan.now a.counters.now a.parts.now (a.r + a.n) a.i 0 c.why_part-validity.ensures c.if-validity-ne0.false _ ∙ part_stops a.plan.now a.counters.now a.parts.now (a.r + a.n) a.i 1 c.why_part-first.ensures c.if-first-ne0.true _)

pub why_part-requires : goal.why_part-requires
why_part-requires c = (c.requires.0, omega arith, c.requires.1 2 (omega arith))

pub returns : goal.returns
returns c =
    let a = c.args in
    sym (part_goes a.plan.now a.counters.now a.parts.now (a.r + a.n) a.i 0 c.why_part-validity.ensures c.if-validity-ne0.false _ ∙ part_goes a.plan.now a.counters.now a.parts.now (a.r + a.n) a.i 1 c.why_part-first.ensures c.if-first-ne0.false _ ∙ sym c.why_part.ensures)
