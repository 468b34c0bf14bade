use mathlib.Core.Path.{◌≡◌}
use mathlib.Core.Bool.{true}
use Rattle.model.specs.Opening.{shared}
use Rattle.array_data.specs.lent_tables.Lent.{tables}
use Rattle.plan.specs.dictionaries.Sources.{dict_at}
use Rattle.plan.proofs.dictionaries.all_share.Given as goal

abbrev pub invariant-loop-s : goal.invariant-loop-s
invariant-loop-s l = shared l.s (dict_at (tables l.lengths l.places l.body) l.sources l.string l.i) ≡ true
