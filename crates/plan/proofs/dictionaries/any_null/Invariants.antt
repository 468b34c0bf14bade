use mathlib.Core.Path.{◌≡◌}
use mathlib.Core.Bool.{false}
use Rattle.model.specs.Opening.{keeps}
use Rattle.array_data.specs.lent_tables.Lent.{tables}
use Rattle.plan.specs.dictionaries.Sources.{array_at}
use Rattle.plan.proofs.dictionaries.any_null.Given as goal

abbrev pub invariant-loop-s : goal.invariant-loop-s
invariant-loop-s l = keeps false l.s (array_at (tables l.lengths l.places l.body) l.sources l.i) ≡ false
