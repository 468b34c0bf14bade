-- `plan::fine::all_fine` meets its contract. Assumes nothing.
use mathlib.Core.Path.{refl}
use native.Mathlib.Omega.{arith}
use Rattle.array_data.proofs.lent_tables.Laws.{yes}
use Rattle.plan.proofs.grounds.Laws.{never, nodes_more, nodes_all}
use Rattle.plan.proofs.fine.all_fine.Goals as goal

pub returns-then-not-node_fine : goal.returns-then-not-node_fine
returns-then-not-node_fine c = λ z. never z

pub loop-i-preserved : goal.loop-i-preserved
loop-i-preserved c =
    let a = c.args in
    nodes_more a.plan.now a.counters.now a.parts.now a.m c.loop-i.i c.loop-i.invariant (c.node_fine.ensures (yes refl c.if-not-node_fine.false-raw)) refl

pub returns : goal.returns
returns c =
    let a = c.args in
    λ z. nodes_all a.plan.now a.counters.now a.parts.now a.m c.loop-i.i c.node_count-n.result c.node_count-n.ensures.value (omega arith) (omega arith) c.loop-i.invariant
