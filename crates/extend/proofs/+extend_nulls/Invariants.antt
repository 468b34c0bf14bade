use mathlib.Core.Path.{◌≡◌}
use Prim.Native.Nat.{◌+◌, ◌*◌, ◌-◌, ◌≤◌}
use mathlib.Core.List.{[]}
use Rattle.walk.specs.Nulls.{null_walk}
use Rattle.leaf_walk.specs.Join.{join}
use lib.ListN.{length}
use Rattle.walk.proofs.Laws.{Rest}
use Rattle.walk.proofs.Names.{null_fields}
use Rattle.extend.proofs.+extend_nulls.Given as goal

abbrev pub decreases-extend_nulls : goal.decreases-extend_nulls
decreases-extend_nulls l = l.depth * 4

abbrev pub decreases-extend_nulls_data : goal.decreases-extend_nulls_data
decreases-extend_nulls_data l = l.depth * 4 + 3

abbrev pub decreases-union::extend_nulls_dense : goal.decreases-union::extend_nulls_dense
decreases-union::extend_nulls_dense l = l.depth * 4 + 2

abbrev pub decreases-run::extend_nulls_run : goal.decreases-run::extend_nulls_run
decreases-run::extend_nulls_run l = l.depth * 4 + 2

abbrev pub decreases-union::extend_nulls_sparse : goal.decreases-union::extend_nulls_sparse
decreases-union::extend_nulls_sparse l = l.depth * 4 + 2

abbrev pub invariant-union::extend_nulls_sparse-loop-t : goal.invariant-union::extend_nulls_sparse-loop-t
invariant-union::extend_nulls_sparse-loop-t l = Rest l.plan l.parts l.write (null_fields (join l.plan l.parts [] [] [] 0 0) (null_walk (join l.plan l.parts [] [] [] 0 0) l.depth) l.n l.end 32 l.initial.k l.initial.counters) l.initial.room (null_fields (join l.plan l.parts [] [] [] 0 0) (null_walk (join l.plan l.parts [] [] [] 0 0) l.depth) l.n l.end (32 - l._t) l.k l.counters) l.room
