-- A list's answer as one number. Assumes nothing.
use mathlib.Core.Path.{◌≡◌, ap₂, ◌∙◌}
use mathlib.Core.List.{List}
use Prim.Native.Nat.{ℕ, ◌+◌, ◌*◌, ◌≤◌}
use native.Mathlib.Omega.{arith}
use Rattle.refinement.specs.orders.Order.{Lent}
use Rattle.model.specs.Book.{Call}
use Rattle.trip.specs.declared.Ended.{Ended}
use Rattle.trip.specs.Trip.{longest, AfterTrip, trip_order, AskedTrip, trip_measure}
use Rattle.trip.specs.Answer.{Ends}
use Rattle.trip.specs.Answer as trip
use Rattle.trip.proofs.Trip.{place_trip, place_asked}
use Rattle.lafkuno.specs.Trips.{Carries, Asks}

pub carries : {a : AfterTrip} {e : Ended} {c bytes : List ℕ} {r : ℕ} → Ends a e c bytes → r ≡ e.refusal + 256 * e.place → Carries a r c bytes
carries h q = record { answer = q ∙ ap₂ (λ g p. g + 256 * p) h.refusal h.place; counters = h.counters; room = h.room }

pub asks : {a : AskedTrip} {e : Ended} {c : List ℕ} {r : ℕ} → trip.Asks a e c → r ≡ e.refusal + 256 * e.place → Asks a r c
asks h q = record { answer = q ∙ ap₂ (λ g p. g + 256 * p) h.refusal h.place; counters = h.counters }

-- a place is at most 256
pub low_place : (x : Lent) (c r : List ℕ) (os : List Call) {e : Ended} {c2 bytes : List ℕ} → Ends (trip_order x c r os) e c2 bytes → e.place ≤ longest
low_place x c r os h = omega (arith, h.place, place_trip x c r os)

pub low_asked : (x : Lent) (c : List ℕ) (os : List Call) {e : Ended} {c2 : List ℕ} → trip.Asks (trip_measure x c os) e c2 → e.place ≤ longest
low_asked x c os h = omega (arith, h.place, place_asked x c os)
