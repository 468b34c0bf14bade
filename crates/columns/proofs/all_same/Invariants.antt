use mathlib.Core.Path.{◌≡◌}
use mathlib.Core.Bool.{true}
use Prim.Native.Nat.{ℕ, ◌-◌, ◌≤◌, ◌<◌}
use Rattle.schema.specs.Tree.{same_type}
use Rattle.array_data.specs.Sources.{source_count, first_of, nodes_of}
use Rattle.columns.proofs.Laws.{of_source}
use Rattle.columns.proofs.all_same.Given as goal

abbrev pub invariant-loop-s : goal.invariant-loop-s
invariant-loop-s l = (l.first ≡ first_of l.sources 0) × (l.nodes ≡ nodes_of l.sources 0) × ((j : ℕ) → j < l.s → of_source (same_type l.formats l.schema (first_of l.sources 0) (nodes_of l.sources 0)) l.sources j ≡ true)
