use mathlib.Core.Path.{◌≡◌}
use mathlib.Core.Bool.{true}
use mathlib.Core.List.{[]}
use Rattle.model.specs.Opening.{entries_before}
use Rattle.array_data.specs.lent_tables.Lent.{tables}
use Rattle.plan.specs.dictionaries.Sources.{dict_at, capped}
use Rattle.plan.proofs.dictionaries.entries_before.Given as goal

abbrev pub invariant-loop-s : goal.invariant-loop-s
invariant-loop-s l = l.sum ≡ capped (entries_before (dict_at (tables l.lengths [] []) l.sources true l.i) l.s)
