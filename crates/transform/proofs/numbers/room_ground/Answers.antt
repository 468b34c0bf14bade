-- `transform::numbers::room_ground` meets its contract. Assumes nothing.
use native.Mathlib.Omega.{arith}
use Rattle.transform.proofs.numbers.Laws.{first_node, root_copied}
use Rattle.transform.proofs.numbers.room_ground.Goals as goal

pub returns : goal.returns
returns c =
    let a = c.args in
    λ counters q. (first_node a.plan.now c.requires.0).others counters a.parts.now a.m (c.node_ground.ensures counters q)

pub node_ground-requires : goal.node_ground-requires
node_ground-requires c = (omega arith, (first_node c.args.plan.now c.requires.0).fixed, c.requires.1, root_copied c.args.plan.now)
