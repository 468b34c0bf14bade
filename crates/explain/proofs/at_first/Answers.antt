-- `explain::at_first` meets its contract. Assumes nothing.
use mathlib.Core.Path.{refl}
use Rattle.explain.proofs.at_first.Goals as goal

pub returns : goal.returns
returns c = (refl, c.plain.ensures)
