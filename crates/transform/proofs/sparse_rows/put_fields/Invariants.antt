use mathlib.Core.Path.{◌≡◌}
use mathlib.Core.Bool.{true}
use Prim.Native.Nat.{ℕ, ◌-◌, ◌≤◌}
use lib.ListN.{length}
use Rattle.walk.specs.Copy.{copy_walk}
use Rattle.walk.proofs.Names.{copy_fields}
use Rattle.walk.proofs.Laws.{Rest}
use Rattle.leaf_walk.specs.Join.{join}
use Rattle.transform.specs.sparse_rows.Sparse.{fields_in}
use Rattle.transform.proofs.sparse_rows.put_fields.Given as goal

abbrev pub invariant-loop-k : goal.invariant-loop-k
invariant-loop-k l =
    (fields_in (join l.plan l.parts l.lengths l.places l.body l.first 0) l.row l.n l.end (33 - l.k) l.k ≡ true)
    × ((source : ℕ) → Rest l.plan l.parts true (copy_fields (join l.plan l.parts l.lengths l.places l.body l.first source) (copy_walk (join l.plan l.parts l.lengths l.places l.body l.first source) 7) l.row l.n l.end 32 1 l.initial.counters) l.initial.room (copy_fields (join l.plan l.parts l.lengths l.places l.body l.first source) (copy_walk (join l.plan l.parts l.lengths l.places l.body l.first source) 7) l.row l.n l.end (33 - l.k) l.k l.counters) l.room)
