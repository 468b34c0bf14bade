-- `columns::is_small` meets its contract. Assumes nothing.
use mathlib.Core.Path.{refl}
use Rattle.columns.specs.Grounds.{small_body}
use Rattle.columns.proofs.is_small.Goals as goal

pub returns : goal.returns
unfolding small_body
returns c = refl
