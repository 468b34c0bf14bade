use Prim.Native.Nat.{ℕ, ◌<◌}
use mathlib.Core.Path.{◌≡◌}
use mathlib.Core.Bool.{true}
use Rattle.width_walks.specs.target_rules.Target.{like_node}
use Rattle.width_walks.proofs.target_rules.is_target.Given as goal

abbrev pub invariant-loop-node : goal.invariant-loop-node
invariant-loop-node l = (j : ℕ) → j < l.node → like_node l.formats l.schema l.first l.first2 j ≡ true
