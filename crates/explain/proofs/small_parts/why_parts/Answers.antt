-- `explain::small_parts::why_parts` meets its contract. The invariant: what the rest says is what all say. Assumes nothing.
use mathlib.Core.Path.{refl, sym, ap, ◌∙◌}
use Prim.Native.Nat.{ℕ, ◌+◌, ◌-◌}
use native.Mathlib.Nat.{sub-zero}
use native.Mathlib.Omega.{arith}
use Rattle.explain.specs.stops.Parts.{why_parts_from}
use Rattle.explain.proofs.small_parts.Laws.{nodes_none, nodes_stop, nodes_on}
use Rattle.explain.proofs.small_parts.why_parts.Goals as goal

pub loop-i-init : goal.loop-i-init
loop-i-init c = simp sub-zero refl

pub why_node-w-requires : goal.why_node-w-requires
why_node-w-requires c = (omega (arith, c.node_count-nodes.ensures.upper_bound), λ b l. c.requires c.loop-i.i b (omega (arith, c.node_count-nodes.ensures.value)) l)

pub returns-then-w-ne0 : goal.returns-then-w-ne0
returns-then-w-ne0 c =
    let a = c.args in
    sym (ap (λ (z : ℕ). why_parts_from a.plan.now a.counters.now a.parts.now (a.r + a.n) z 0) (sym c.node_count-nodes.ensures.value) ∙ c.loop-i.invariant ∙ nodes_stop a.plan.now a.counters.now a.parts.now (a.r + a.n) (c.node_count-nodes.result - c.loop-i.i) (c.node_count-nodes.result - (c.loop-i.i + 1)) c.loop-i.i (omega arith) c.why_node-w.ensures c.if-w-ne0.true)

pub loop-i-preserved : goal.loop-i-preserved
loop-i-preserved c =
    let a = c.args in
    c.loop-i.invariant ∙ nodes_on a.plan.now a.counters.now a.parts.now (a.r + a.n) (c.node_count-nodes.result - c.loop-i.i) (c.node_count-nodes.result - (c.loop-i.i + 1)) c.loop-i.i (omega arith) c.why_node-w.ensures refl c.if-w-ne0.false

pub returns : goal.returns
returns c =
    let a = c.args in
    c.plain.ensures ∙ sym (ap (λ (z : ℕ). why_parts_from a.plan.now a.counters.now a.parts.now (a.r + a.n) z 0) (sym c.node_count-nodes.ensures.value) ∙ c.loop-i.invariant ∙ nodes_none a.plan.now a.counters.now a.parts.now (a.r + a.n) (c.node_count-nodes.result - c.loop-i.i) c.loop-i.i (omega arith))
