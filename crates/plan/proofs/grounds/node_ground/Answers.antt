-- `parts::grounds::node_ground` meets its contract. Assumes nothing.
use Rattle.array_data.proofs.lent_tables.Laws.{no}
use Rattle.plan.proofs.grounds.Laws.{node_three, node_none}
use Rattle.plan.proofs.grounds.node_ground.Goals as goal

pub returns-then-not-is_copied : goal.returns-then-not-is_copied
returns-then-not-is_copied c =
    let a = c.args in
    node_none a.plan.now a.counters.now a.parts.now a.m a.i (no c.is_copied.ensures c.if-not-is_copied.true-raw)

pub returns : goal.returns
returns c =
    let a = c.args in
    node_three a.plan.now a.counters.now a.parts.now a.m a.i c.validity_ground-validity.ensures c.first_ground-first.ensures c.second_ground-second.ensures c.worse.ensures c.worse-2.ensures
