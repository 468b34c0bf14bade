use mathlib.Core.Path.{◌≡◌}
use mathlib.Core.List.{List}
use Prim.Native.Nat.{ℕ, ◌-◌, ◌≤◌, ◌<◌}
use Rattle.columnar.specs.Test.{every}
use Rattle.walk.specs.State.{rows, grown}
use Rattle.leaf_walk.specs.Join.{join}
use Rattle.plan.specs.grounds.Verdict.{verdict}
use Rattle.plan.proofs.grounds.Laws.{within_at, hold_at}
use Rattle.transform.specs.sparse_rows.Sparse.{fields_in}
use Rattle.transform.proofs.sparse_rows.fields_ground.Given as goal

abbrev pub invariant-loop-k : goal.invariant-loop-k
invariant-loop-k l =
    ((source : ℕ) → fields_in (join l.plan l.parts l.lengths l.places l.body l.first source) l.row l.n l.end 32 1 ≡ fields_in (join l.plan l.parts l.lengths l.places l.body l.first source) l.row l.n l.end (33 - l.k) l.k)
    × ((t : List ℕ) → ((j : ℕ) → j < l.end → rows t j ≡ grown (rows l.counters j) l.n) → l.g ≡ verdict (every (within_at l.plan t l.parts l.m) l.k) (every (hold_at l.plan t l.parts l.m) l.k))
