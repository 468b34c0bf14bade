use Prim.Native.Nat.{suc, ◌+◌, ◌≤◌}
use mathlib.Core.Path.{◌≡◌}
use lib.Dec.{ltb}
use Rattle.schema.specs.Tree.{end_of}
use Rattle.schema.proofs.Counts.{count}
use Rattle.schema.proofs.depth_of.Given as goal

abbrev pub invariant-loop-j : goal.invariant-loop-j
invariant-loop-j l = (l.d ≤ 1 + l.j) × (l.d ≡ suc (count (λ k. ltb l.i (end_of l.schema l.first l.n k)) l.j))
