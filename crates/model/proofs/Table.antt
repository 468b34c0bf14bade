-- The definitions give 01's table of checked rows, and the table of cuts. Assumes nothing.
use mathlib.Core.Path.{◌≡◌, refl}
use Rattle.number.specs.Number.{number, encode}
use mathlib.Core.Bool.{true}
use lib.ListN.{replicate}
use Rattle.columnar.specs.Array.{item, bit}
use Rattle.model.specs.Mutable.{pack}
use Rattle.model.specs.Table.{given, expected, obeyed}
use Rattle.model.specs.CutTable.{cuts_given, cuts_expected}

pub the_table : given ≡ expected
unfolding number encode item bit pack
the_table = refl

-- its sources pass ground 12
pub the_sources : obeyed ≡ replicate 27 true
unfolding number encode item bit
the_sources = refl

pub cuts_table : cuts_given ≡ cuts_expected
unfolding number encode item
cuts_table = refl
