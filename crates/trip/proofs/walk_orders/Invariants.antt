use mathlib.Core.Path.{◌≡◌}
use Prim.Native.Nat.{◌-◌, ◌≤◌}
use lib.ListN.{length}
use Rattle.transform.specs.Answer.{lent}
use Rattle.trip.specs.Walk.{step_at}
use Rattle.trip.proofs.Laws.{Left}
use Rattle.trip.proofs.walk_orders.Given as goal

abbrev pub invariant-loop-k : goal.invariant-loop-k
invariant-loop-k l = Left l.plan l.parts l.write (step_at (lent l.plan l.parts l.sources l.lengths l.places l.body) l.ask l.within l.orders) (l.n - l.k) l.k l.counters l.room l.n l.initial.counters l.initial.room
