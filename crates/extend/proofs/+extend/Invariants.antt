use mathlib.Core.Path.{◌≡◌}
use Prim.Native.Nat.{◌+◌, ◌*◌, ◌-◌, ◌≤◌}
use lib.ListN.{length}
use Rattle.walk.specs.Log.{each}
use Rattle.walk.specs.Copy.{list_view_row, copy_walk, dense_row}
use Rattle.walk.proofs.Laws.{Rest}
use Rattle.leaf_walk.specs.Join.{join}
use Rattle.walk.proofs.Names.{copy_fields}
use Rattle.extend.proofs.+extend.Given as goal

abbrev pub decreases-extend : goal.decreases-extend
decreases-extend l = l.depth * 5

abbrev pub decreases-extend_data : goal.decreases-extend_data
decreases-extend_data l = l.depth * 5 + 4

abbrev pub decreases-union::extend_dense : goal.decreases-union::extend_dense
decreases-union::extend_dense l = l.depth * 5 + 2

abbrev pub decreases-union::extend_dense_row : goal.decreases-union::extend_dense_row
decreases-union::extend_dense_row l = l.depth * 5 + 1

abbrev pub decreases-list::extend_list : goal.decreases-list::extend_list
decreases-list::extend_list l = l.depth * 5 + 2

abbrev pub decreases-list_view::extend_list_row : goal.decreases-list_view::extend_list_row
decreases-list_view::extend_list_row l = l.depth * 5 + 1

abbrev pub decreases-list_view::extend_list_view : goal.decreases-list_view::extend_list_view
decreases-list_view::extend_list_view l = l.depth * 5 + 2

abbrev pub decreases-extend_listed : goal.decreases-extend_listed
decreases-extend_listed l = l.depth * 5 + 3

abbrev pub decreases-run::extend_run : goal.decreases-run::extend_run
decreases-run::extend_run l = l.depth * 5 + 2

abbrev pub decreases-union::extend_sparse : goal.decreases-union::extend_sparse
decreases-union::extend_sparse l = l.depth * 5 + 2

abbrev pub invariant-union::extend_dense-loop-r : goal.invariant-union::extend_dense-loop-r
invariant-union::extend_dense-loop-r l = Rest l.plan l.parts l.write (each (dense_row (join l.plan l.parts l.lengths l.places l.body l.first l.source) (copy_walk (join l.plan l.parts l.lengths l.places l.body l.first l.source) l.depth) l.i l.slot) l.n 0 l.initial.counters) l.initial.room (each (dense_row (join l.plan l.parts l.lengths l.places l.body l.first l.source) (copy_walk (join l.plan l.parts l.lengths l.places l.body l.first l.source) l.depth) l.i l.slot) (l.n - l.r) l.r l.counters) l.room

abbrev pub invariant-list_view::extend_list_view-loop-r : goal.invariant-list_view::extend_list_view-loop-r
invariant-list_view::extend_list_view-loop-r l = Rest l.plan l.parts l.write (each (list_view_row (join l.plan l.parts l.lengths l.places l.body l.first l.source) (copy_walk (join l.plan l.parts l.lengths l.places l.body l.first l.source) l.depth) l.w l.i l.slot) l.n 0 l.initial.counters) l.initial.room (each (list_view_row (join l.plan l.parts l.lengths l.places l.body l.first l.source) (copy_walk (join l.plan l.parts l.lengths l.places l.body l.first l.source) l.depth) l.w l.i l.slot) (l.n - l.r) l.r l.counters) l.room

abbrev pub invariant-union::extend_sparse-loop-t : goal.invariant-union::extend_sparse-loop-t
invariant-union::extend_sparse-loop-t l = Rest l.plan l.parts l.write (copy_fields (join l.plan l.parts l.lengths l.places l.body l.first l.source) (copy_walk (join l.plan l.parts l.lengths l.places l.body l.first l.source) l.depth) l.slot l.n l.end 32 l.initial.k l.initial.counters) l.initial.room (copy_fields (join l.plan l.parts l.lengths l.places l.body l.first l.source) (copy_walk (join l.plan l.parts l.lengths l.places l.body l.first l.source) l.depth) l.slot l.n l.end (32 - l._t) l.k l.counters) l.room
