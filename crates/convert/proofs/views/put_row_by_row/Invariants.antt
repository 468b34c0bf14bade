use mathlib.Core.Bool.{true}
use Prim.Native.Nat.{◌-◌}
use Rattle.walk.specs.Log.{each}
use Rattle.walk.proofs.Laws.{Rest}
use Rattle.leaf_walk.specs.Join.{join}
use Rattle.convert.specs.convert_lists.Viewing.{view_row}
use Rattle.convert.proofs.views.put_row_by_row.Given as goal

abbrev pub invariant-loop-r : goal.invariant-loop-r
invariant-loop-r l = Rest l.plan l.parts true (each (view_row (join l.plan l.parts l.lengths l.places l.body l.first 0) l.w) l.n 0 l.counters) l.initial.room (each (view_row (join l.plan l.parts l.lengths l.places l.body l.first 0) l.w) (l.n - l.r) l.r l.counters) l.room
