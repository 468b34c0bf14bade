-- `parts::part_total` meets its contract. Assumes nothing.
use mathlib.Core.Path.{ap, ◌∙◌}
use Rattle.plan.specs.parts.Parts.{parts_before}
use Rattle.plan.proofs.parts.part_total.Goals as goal

pub returns : goal.returns
returns c = record { value = c.parts_before.ensures.value ∙ ap (parts_before c.args.plan.now) c.node_count.ensures.value; upper_bound = c.parts_before.ensures.upper_bound }
