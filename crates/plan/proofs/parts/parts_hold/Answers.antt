-- `parts::parts_hold` meets its contract. Assumes nothing.
use mathlib.Core.Path.{ap, ◌∙◌}
use Rattle.columnar.specs.Test.{every}
use Rattle.plan.specs.parts.Parts.{part_holds, parts_hold}
use Rattle.plan.proofs.parts.parts_hold.Goals as goal

pub returns : goal.returns
unfolding parts_hold
returns c =
    let z = c.args in
    c.nodes_hold.ensures ∙ ap (every (λ i. every (λ b. part_holds z.plan.now z.counters.now z.parts.now i b) 3)) c.node_count.ensures.value
