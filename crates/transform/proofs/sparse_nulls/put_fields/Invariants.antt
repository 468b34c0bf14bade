use mathlib.Core.Path.{◌≡◌}
use mathlib.Core.Bool.{true}
use mathlib.Core.List.{[]}
use Prim.Native.Nat.{◌-◌, ◌≤◌}
use lib.ListN.{length}
use Rattle.walk.specs.Nulls.{null_walk}
use Rattle.walk.proofs.Names.{null_fields}
use Rattle.walk.proofs.Laws.{Rest}
use Rattle.leaf_walk.specs.Join.{join}
use Rattle.transform.proofs.sparse_nulls.put_fields.Given as goal

abbrev pub invariant-loop-k : goal.invariant-loop-k
invariant-loop-k l =
    let x = join l.plan l.parts [] [] [] 0 0 in
    Rest l.plan l.parts true (null_fields x (null_walk x 7) l.n l.end 32 1 l.initial.counters) l.initial.room (null_fields x (null_walk x 7) l.n l.end (33 - l.k) l.k l.counters) l.room
