-- What a caller sees of the calls for a trip: one number, and the counters and the room as they are left. Assumes nothing.
use Rattle.std.specs.Prelude.{◌≡◌, List, ℕ, ◌+◌, ◌*◌}
use Rattle.trip.specs.Trip.{AfterTrip, AskedTrip}

-- the ground, and 256 times the place
pub record Carries (a : AfterTrip) (r : ℕ) (tally bytes : List ℕ) : Type 0 where
  pub answer : r ≡ a.refusal + 256 * a.place
  pub counters : tally ≡ a.counters
  pub room : bytes ≡ a.room

pub record Asks (a : AskedTrip) (r : ℕ) (tally : List ℕ) : Type 0 where
  pub answer : r ≡ a.refusal + 256 * a.place
  pub counters : tally ≡ a.counters
