use mathlib.Core.Path.{◌≡◌}
use mathlib.Core.Bool.{true}
use Prim.Native.Nat.{ℕ, ◌-◌, ◌≤◌, ◌<◌}
use mathlib.Core.List.{[]}
use Rattle.array_data.specs.lent_tables.Lent.{tables}
use Rattle.columns.specs.Grounds.{within_ceilings}
use Rattle.array_data.specs.Sources.{source_count}
use Rattle.columns.proofs.Laws.{of_source}
use Rattle.columns.proofs.all_within.Given as goal

abbrev pub invariant-loop-s : goal.invariant-loop-s
invariant-loop-s l = (j : ℕ) → j < l.s → of_source (within_ceilings l.formats l.schema (tables l.lengths l.places [])) l.sources j ≡ true
