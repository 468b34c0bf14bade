-- `parts::node_within` meets its contract. Assumes nothing.
use Rattle.plan.specs.parts.Parts.{part_within}
use Rattle.plan.proofs.parts.Laws.{every_three}
use Rattle.plan.proofs.parts.node_within.Goals as goal

pub returns : goal.returns
returns c =
    let a = c.args in
    every_three (λ b. part_within a.plan.now a.parts.now a.m a.i b) c.part_within-validity.ensures c.part_within-first.ensures c.part_within-second.ensures
