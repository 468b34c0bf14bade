-- `stop_walks::nulls::homeless` meets its contract. Assumes nothing.
use mathlib.Core.Path.{refl}
use Rattle.explain.proofs.nulls.homeless.Goals as goal

pub returns : goal.returns
returns c = rw c.no_home.ensures refl
