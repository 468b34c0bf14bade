use mathlib.Core.Bool.{Bool}
use mathlib.Core.List.{List}
use Prim.Native.Nat.{ℕ, ◌-◌}
use Rattle.walk.specs.Log.{each}
use Rattle.walk.proofs.Laws.{Rest}
use Rattle.refinement.specs.opening.Open.{begin_gaps}
use Rattle.refinement.specs.orders.Order.{lent}
use Rattle.with_capacities.proofs.open_walk.begin_gaps.Given as goal

abbrev pub invariant-loop-i : goal.invariant-loop-i
invariant-loop-i l = (parts sources lengths places body room : List ℕ) (write : Bool) → Rest l.plan parts write (each (begin_gaps (lent l.plan parts sources lengths places body)) l.n 0 l.initial.counters) room (each (begin_gaps (lent l.plan parts sources lengths places body)) (l.n - l.i) l.i l.counters) room
