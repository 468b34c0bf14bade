-- `plan::write_type` meets its contract. Assumes nothing.
use mathlib.Core.Path.{ap, ◌∙◌}
use lib.ListN.{set}
use Rattle.plan.specs.Plan.{with_tree, with_counts}
use Rattle.plan.proofs.write_type.Goals as goal

pub returns : goal.returns
unfolding with_counts
returns c = let z = c.args in ap (λ s. set (set s 864 z.m) 865 z.n) (c.write_tree.ensures ∙ ap with_tree c.plant.ensures)
