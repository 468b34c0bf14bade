-- `lafkuno::lafkuno_part_node` meets its contract. Assumes nothing.
use mathlib.Core.Path.{◌∙◌, sym, ap}
use Rattle.lafkuno.specs.Calls.{spot_node}
use Rattle.lafkuno.proofs.lafkuno_part_node.Goals as goal

pub returns-in-Some : goal.returns-in-Some
returns-in-Some c = sym (ap spot_node (sym c.part_at.ensures ∙ c.in-Some.is))

pub returns-in-None : goal.returns-in-None
returns-in-None c = sym (ap spot_node (sym c.part_at.ensures ∙ c.in-None.is))
