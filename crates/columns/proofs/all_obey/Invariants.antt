use mathlib.Core.Path.{◌≡◌}
use mathlib.Core.Bool.{true}
use Prim.Native.Nat.{ℕ, ◌-◌, ◌≤◌, ◌<◌}
use Rattle.source_rules.specs.kinds.Rows.{tables_of}
use Rattle.columns.specs.Grounds.{obeys}
use Rattle.array_data.specs.Sources.{source_count}
use Rattle.columns.proofs.Laws.{of_source}
use Rattle.columns.proofs.all_obey.Given as goal

abbrev pub invariant-loop-s : goal.invariant-loop-s
invariant-loop-s l = (j : ℕ) → j < l.s → of_source (obeys l.formats l.schema (tables_of l.lengths l.places l.buffers l.body)) l.sources j ≡ true
