use mathlib.Core.Path.{◌≡◌}
use mathlib.Core.Bool.{true}
use Prim.Native.Nat.{ℕ, ◌-◌, ◌≤◌, ◌<◌}
use Rattle.transform.specs.numbers.Plan.{numbers_at}
use Rattle.transform.proofs.sparse_rows.are_fields.Given as goal

abbrev pub invariant-loop-k : goal.invariant-loop-k
invariant-loop-k l = (j : ℕ) → j < l.k → 1 ≤ j → numbers_at l.plan j ≡ true
