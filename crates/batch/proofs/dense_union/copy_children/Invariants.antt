use Prim.Native.Nat.{ℕ, suc, ◌-◌, ◌<◌}
use Rattle.walk.specs.State.{end_of}
use Rattle.walk.proofs.Laws.{Rest}
use Rattle.leaf_walk.specs.Join.{join}
use Rattle.batch.specs.Dense.{batch_fields}
use Rattle.batch.specs.Batch.{batch_leaf}
use Rattle.batch.proofs.dense_union.copy_children.Given as goal

abbrev pub invariant-loop-t : goal.invariant-loop-t
invariant-loop-t l =
    (l.i < l.k)
    × ((source : ℕ) → Rest l.plan l.parts l.write (batch_fields (join l.plan l.parts l.lengths l.places l.body l.first source) (batch_leaf (join l.plan l.parts l.lengths l.places l.body l.first source)) l.i l.slot l.n (end_of l.plan l.i) 32 (suc l.i) l.initial.counters) l.initial.room
    (batch_fields (join l.plan l.parts l.lengths l.places l.body l.first source) (batch_leaf (join l.plan l.parts l.lengths l.places l.body l.first source)) l.i l.slot l.n l.last (32 - l.t) l.k l.counters) l.room)
