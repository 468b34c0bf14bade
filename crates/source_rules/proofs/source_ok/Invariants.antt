use mathlib.Core.Path.{◌≡◌}
use mathlib.Core.Bool.{true}
use Prim.Native.Nat.{ℕ, ◌<◌}
use Rattle.array_data.specs.Typed.{tables_from, node_rule}
use Rattle.array_data.specs.type_tree.Lent.{tree_of}
use Rattle.source_rules.specs.kinds.Rows.{tables_of}
use Rattle.source_rules.proofs.source_ok.Given as goal

abbrev pub invariant-loop-i : goal.invariant-loop-i
invariant-loop-i l = (j : ℕ) → j < l.i → node_rule (tree_of l.formats l.schema l.first l.n) (tables_from (tables_of l.lengths l.places l.buffers l.body) l.first) j ≡ true
