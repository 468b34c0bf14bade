-- `plan::grounds::parts_ground` meets its contract. Assumes nothing.
use native.Mathlib.Omega.{arith}
use Rattle.plan.proofs.grounds.Laws.{nodes_more, nodes_all}
use Rattle.plan.proofs.grounds.parts_ground.Goals as goal

pub returns-then-all_fine : goal.returns-then-all_fine
returns-then-all_fine c = c.all_fine.ensures c.if-all_fine.true

pub loop-i-preserved : goal.loop-i-preserved
loop-i-preserved c =
    let a = c.args in
    nodes_more a.plan.now a.counters.now a.parts.now a.m c.loop-i.i c.loop-i.invariant c.node_ground.ensures c.worse-g.ensures

pub returns : goal.returns
returns c =
    let a = c.args in
    nodes_all a.plan.now a.counters.now a.parts.now a.m c.loop-i.i c.node_count-n.result c.node_count-n.ensures.value (omega arith) (omega arith) c.loop-i.invariant
