-- `width_loop::nodes::width_at` meets its contract. Assumes nothing.
use mathlib.Core.Path.{ap, ◌∙◌}
use Rattle.schema.specs.formats.Code.{width_of}
use Rattle.width_loop.proofs.nodes.width_at.Goals as goal

pub returns : goal.returns
returns c = c.width_of.ensures ∙ ap width_of c.code_of.ensures
