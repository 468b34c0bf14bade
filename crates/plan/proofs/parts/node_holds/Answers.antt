-- `parts::node_holds` meets its contract. Assumes nothing.
use Rattle.plan.specs.parts.Parts.{part_holds}
use Rattle.plan.proofs.parts.Laws.{every_three}
use Rattle.plan.proofs.parts.node_holds.Goals as goal

pub returns : goal.returns
returns c =
    let a = c.args in
    every_three (λ b. part_holds a.plan.now a.counters.now a.parts.now a.i b) c.part_holds-validity.ensures c.part_holds-first.ensures c.part_holds-second.ensures
