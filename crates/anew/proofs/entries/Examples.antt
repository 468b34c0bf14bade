-- The table of reclaimed columns, by computation.
use mathlib.Core.Path.{◌≡◌, refl}
use mathlib.Core.Bool.{true}
use mathlib.Core.List.{map}
use Rattle.number.specs.Number.{number, encode}
use Rattle.columnar.specs.Types.{t_dictionary}
use Rattle.columnar.specs.Array.{item, bit}
use Rattle.columnar.specs.Test.{test}
use Rattle.model.specs.Mutable.{pack}
use Rattle.anew.specs.entries.Reclaimed.{reclaimed}
use Rattle.anew.specs.entries.Examples.{reclaimings}

pub examples_pass : map (λ e. test (t_dictionary e.key e.plain) e.column) reclaimings ≡ map (λ e. true) reclaimings
unfolding number encode item bit
examples_pass = refl

-- SLICED KEYS, a null entry in use and one that is not, no entry in use, a key of any number under a null, more entries than keys
pub examples_are : map (λ e. record { key = e.key; plain = e.plain; column = e.column; result = reclaimed e.key e.plain e.column }) reclaimings ≡ reclaimings
unfolding number encode item bit pack
examples_are = refl
