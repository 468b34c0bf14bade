use Prim.Native.Nat.{◌+◌, ◌-◌, ◌*◌, ◌≤◌}
use mathlib.Core.Path.{◌≡◌}
use Rattle.schema.specs.Tree.{end_from}
use Rattle.schema.proofs.Due.{due_from}
use Rattle.schema.proofs.is_whole.Given as goal

abbrev pub invariant-loop-k : goal.invariant-loop-k
invariant-loop-k l = (l.due ≤ 1 + 4294967296 * l.k) × (end_from l.schema l.first (l.n - l.k) l.due l.k ≡ end_from l.schema l.first l.n 1 0) × (due_from l.schema l.first (l.n - l.k) l.due l.k ≡ due_from l.schema l.first l.n 1 0)
