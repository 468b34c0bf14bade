use mathlib.Core.Path.{◌≡◌}
use mathlib.Core.Bool.{true}
use Prim.Native.Nat.{ℕ, ◌-◌, ◌≤◌, ◌<◌}
use Rattle.schema.specs.Tree.{typed}
use Rattle.array_data.specs.Sources.{source_count}
use Rattle.columns.proofs.Laws.{of_source}
use Rattle.columns.proofs.all_typed.Given as goal

abbrev pub invariant-loop-s : goal.invariant-loop-s
invariant-loop-s l = (j : ℕ) → j < l.s → of_source (typed l.formats l.schema) l.sources j ≡ true
