use Prim.Native.Nat.{◌+◌, ◌-◌, ◌*◌, ◌≤◌}
use mathlib.Core.Path.{◌≡◌}
use Rattle.schema.specs.Tree.{end_from}
use Rattle.schema.proofs.end_of.Given as goal

abbrev pub invariant-loop-k : goal.invariant-loop-k
invariant-loop-k l = (l.due ≤ 1 + 4294967296 * (l.k - l.i)) × (end_from l.schema l.first (l.n - l.k) l.due l.k ≡ end_from l.schema l.first (l.n - l.i) 1 l.i) × (l.n ≤ l.i → l.k ≡ l.i)
