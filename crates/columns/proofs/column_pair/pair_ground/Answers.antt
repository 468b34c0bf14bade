-- `column_pair::pair_ground` meets its contract. Assumes nothing.
use mathlib.Core.Path.{◌∙◌, ap₂}
use Rattle.columns.specs.column_pair.Pair.{pair_ground}
use Rattle.columns.proofs.column_pair.pair_ground.Goals as goal

pub returns : goal.returns
returns c = c.first_ground.ensures ∙ ap₂ pair_ground c.column_ground-g.ensures c.column_ground-h.ensures
