-- `parts::part_at` meets its contract. The invariant: what is left of p is looked for from node i on. Assumes nothing.
use Prim.Native.Nat.{ℕ}
use mathlib.Core.Path.{ap, sym, ◌∙◌}
use native.Mathlib.Omega.{arith}
use Rattle.plan.specs.parts.Parts.{part_from}
use Rattle.plan.proofs.parts.Laws.{at_here, at_later, at_end}
use Rattle.plan.proofs.parts.part_at.Goals as goal

pub returns-then-left-count : goal.returns-then-left-count
returns-then-left-count c =
    let a = c.args in
    let l = c.loop-i in
    at_here a.plan.now c.node_count-n.result l.i l.left _ (omega arith) (omega (arith, c.part_count-count.ensures.value)) c.validity_parts.ensures.value
    ∙ l.invariant
    ∙ ap (λ (x : ℕ). part_from a.plan.now x 0 a.p) c.node_count-n.ensures.value

pub loop-i-preserved : goal.loop-i-preserved
loop-i-preserved c =
    let l = c.loop-i in
    sym (at_later c.args.plan.now c.node_count-n.result l.i l.left _ (omega arith) c.part_count-count.ensures.value (omega arith)) ∙ l.invariant

pub returns : goal.returns
returns c =
    let a = c.args in
    let l = c.loop-i in
    sym (at_end a.plan.now c.node_count-n.result l.i l.left (omega arith)) ∙ l.invariant ∙ ap (λ (x : ℕ). part_from a.plan.now x 0 a.p) c.node_count-n.ensures.value
