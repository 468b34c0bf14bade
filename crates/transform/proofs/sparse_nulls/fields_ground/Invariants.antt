use mathlib.Core.Path.{◌≡◌}
use mathlib.Core.List.{List}
use Prim.Native.Nat.{ℕ, ◌-◌, ◌≤◌}
use Rattle.columnar.specs.Test.{every}
use Rattle.plan.specs.grounds.Verdict.{verdict}
use Rattle.plan.proofs.grounds.Laws.{within_at, hold_at}
use Rattle.transform.specs.sparse_rows.Sparse.{Raised}
use Rattle.transform.proofs.sparse_nulls.fields_ground.Given as goal

abbrev pub invariant-loop-k : goal.invariant-loop-k
invariant-loop-k l =
    (t : List ℕ) → Raised l.counters l.n l.end t → l.g ≡ verdict (every (within_at l.plan t l.parts l.m) l.k) (every (hold_at l.plan t l.parts l.m) l.k)
