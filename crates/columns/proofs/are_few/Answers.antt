-- `columns::are_few` meets its contract. Assumes nothing.
use mathlib.Core.Path.{refl}
use Rattle.columns.specs.Grounds.{few_sources}
use Rattle.columns.proofs.are_few.Goals as goal

pub returns : goal.returns
unfolding few_sources
returns c = refl
