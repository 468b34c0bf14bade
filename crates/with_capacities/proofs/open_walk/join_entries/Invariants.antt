use Prim.Native.Nat.{◌-◌}
use Rattle.walk.specs.Log.{each}
use Rattle.walk.proofs.Laws.{Rest}
use Rattle.refinement.specs.opening.Open.{join_source}
use Rattle.refinement.specs.orders.Order.{lent}
use Rattle.with_capacities.proofs.open_walk.join_entries.Given as goal

abbrev pub invariant-loop-s : goal.invariant-loop-s
invariant-loop-s l = Rest l.plan l.parts l.write (each (join_source (lent l.plan l.parts l.sources l.lengths l.places l.body) l.i) l.m 0 l.initial.counters) l.initial.room (each (join_source (lent l.plan l.parts l.sources l.lengths l.places l.body) l.i) (l.m - l.s) l.s l.counters) l.room
