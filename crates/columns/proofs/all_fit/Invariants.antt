use mathlib.Core.Path.{◌≡◌}
use mathlib.Core.Bool.{true}
use mathlib.Core.List.{[]}
use Prim.Native.Nat.{ℕ, ◌-◌, ◌≤◌, ◌<◌}
use Rattle.array_data.specs.lent_tables.Lent.{tables}
use Rattle.columns.specs.Grounds.{node_fits}
use Rattle.columns.proofs.all_fit.Given as goal

abbrev pub invariant-loop-i : goal.invariant-loop-i
invariant-loop-i l = (j : ℕ) → j < l.i → node_fits l.formats l.schema (tables l.lengths l.places []) l.first j ≡ true
