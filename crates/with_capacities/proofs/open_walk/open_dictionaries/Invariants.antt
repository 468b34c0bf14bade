use Prim.Native.Nat.{◌-◌}
use Rattle.walk.specs.Log.{each}
use Rattle.walk.proofs.Laws.{Rest}
use Rattle.refinement.specs.opening.Open.{open_dictionary}
use Rattle.refinement.specs.orders.Order.{lent}
use Rattle.with_capacities.proofs.open_walk.open_dictionaries.Given as goal

abbrev pub invariant-loop-i : goal.invariant-loop-i
invariant-loop-i l = Rest l.plan l.parts l.write (each (open_dictionary (lent l.plan l.parts l.sources l.lengths l.places l.body)) l.n 0 l.initial.counters) l.initial.room (each (open_dictionary (lent l.plan l.parts l.sources l.lengths l.places l.body)) (l.n - l.i) l.i l.counters) l.room
