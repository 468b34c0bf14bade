-- `child_names::tables_fit` meets its contract. Assumes nothing.
use mathlib.Core.Path.{refl}
use Rattle.convert.specs.child_names.Names.{tables_fit}
use Rattle.convert.proofs.child_names.tables_fit.Goals as goal

pub returns : goal.returns
unfolding tables_fit
returns c = refl
