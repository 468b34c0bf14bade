use mathlib.Core.Path.{◌≡◌}
use Prim.Native.Nat.{◌-◌, ◌≤◌}
use lib.ListN.{length}
use Rattle.transform.specs.Answer.{lent}
use Rattle.trip.specs.Trip.{calls_from, calls_of}
use Rattle.explain.specs.stops.Order.{why_listed_from, why_trip}
use Rattle.explain.proofs.walk_orders.Given as goal

abbrev pub invariant-loop-k : goal.invariant-loop-k
invariant-loop-k l = (length l.tally ≡ 96) × (why_trip (lent l.plan l.parts l.sources l.lengths l.places l.body) l.m l.counters (calls_of l.orders) ≡ why_listed_from (lent l.plan l.parts l.sources l.lengths l.places l.body) l.m l.k l.tally (calls_from l.orders (l.n - l.k) l.k))
