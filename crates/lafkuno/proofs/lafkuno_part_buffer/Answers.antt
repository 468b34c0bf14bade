-- `lafkuno::lafkuno_part_buffer` meets its contract. Assumes nothing.
use mathlib.Core.Path.{◌∙◌, sym, ap}
use Rattle.lafkuno.specs.Calls.{spot_buffer}
use Rattle.lafkuno.proofs.lafkuno_part_buffer.Goals as goal

pub returns-in-Some : goal.returns-in-Some
returns-in-Some c = sym (ap spot_buffer (sym c.part_at.ensures ∙ c.in-Some.is))

pub returns-in-None : goal.returns-in-None
returns-in-None c = sym (ap spot_buffer (sym c.part_at.ensures ∙ c.in-None.is))
