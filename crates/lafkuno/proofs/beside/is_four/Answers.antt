-- `lafkuno::beside::is_four` meets its contract. Assumes nothing.
use mathlib.Core.Path.{refl}
use Rattle.lafkuno.proofs.beside.is_four.Goals as goal

pub returns : goal.returns
returns c = refl
