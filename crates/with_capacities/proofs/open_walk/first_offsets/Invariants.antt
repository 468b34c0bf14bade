use mathlib.Core.List.{List}
use Prim.Native.Nat.{ℕ, ◌-◌}
use Rattle.walk.specs.Log.{each}
use Rattle.walk.proofs.Laws.{Rest}
use Rattle.refinement.specs.opening.Open.{first_offset}
use Rattle.refinement.specs.orders.Order.{lent}
use Rattle.with_capacities.proofs.open_walk.first_offsets.Given as goal

abbrev pub invariant-loop-i : goal.invariant-loop-i
invariant-loop-i l = (sources lengths places body c : List ℕ) → Rest l.plan l.parts l.write (each (first_offset (lent l.plan l.parts sources lengths places body)) l.n 0 c) l.initial.room (each (first_offset (lent l.plan l.parts sources lengths places body)) (l.n - l.i) l.i c) l.room
