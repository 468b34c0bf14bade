-- What a caller sees of a list of orders. Assumes nothing.
use Rattle.std.specs.Prelude.{◌≡◌, List, ℕ}
use Rattle.trip.specs.Trip.{AfterTrip, AskedTrip}
use Rattle.trip.specs.declared.Ended.{Ended}

-- the ground and the place that are answered, and the counters and the room as they are left
pub record Ends (a : AfterTrip) (r : Ended) (tally bytes : List ℕ) : Type 0 where
  pub refusal : r.refusal ≡ a.refusal
  pub place : r.place ≡ a.place
  pub counters : tally ≡ a.counters
  pub room : bytes ≡ a.room

-- .. and of a question about one
pub record Asks (a : AskedTrip) (r : Ended) (tally : List ℕ) : Type 0 where
  pub refusal : r.refusal ≡ a.refusal
  pub place : r.place ≡ a.place
  pub counters : tally ≡ a.counters
