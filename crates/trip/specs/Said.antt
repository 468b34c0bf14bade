-- The request's sentence once more, over single calls alone (refinement/specs/orders/Order.antt): what a list comes to. proofs/Trip.antt has that it
-- does. Assumes nothing.
use Rattle.std.specs.Prelude.{◌≡◌, List, ◌∷◌, ◌++◌, ℕ, ◌≤◌, ◌<◌, length, replicate}
use Rattle.model.specs.Book.{Call}
use Rattle.refinement.specs.orders.Order.{Lent, ordered, ordered_all, grounds_of}
use Rattle.trip.specs.Trip.{longest, AfterTrip}

module _ (x : Lent) (counters room : List ℕ) where
  -- each of these is accepted when given one after the other
  abbrev pub EachAccepted : List Call → Type 0
  EachAccepted os = grounds_of x counters room os ≡ replicate (length os) 0

  -- "the first failing order": those before it are accepted
  pub record FirstRefused (os : List Call) (refusal place : ℕ) : Type 0 where
    pub before : List Call
    pub failing : Call
    pub behind : List Call
    pub in_list : os ≡ before ++ failing ∷ behind
    pub before_accepted : EachAccepted before
    pub ground_is : refusal ≡ (ordered x (ordered_all x counters room before).counters (ordered_all x counters room before).room failing).refusal
    pub stands : refusal ≡ 0 → ⊥
    pub place_is : place ≡ length before  -- "counted from 0"

  pub data Trip (os : List Call) (a : AfterTrip) : Type 0 where
    -- "all are carried out and the result is the same"
    all_made : length os ≤ longest → EachAccepted os → a ≡ record { refusal = 0; place = 0; counters = (ordered_all x counters room os).counters; room = (ordered_all x counters room os).room } → Trip os a
    -- "otherwise none is"
    none_made : length os ≤ longest → (EachAccepted os → ⊥) → FirstRefused os a.refusal a.place → a.counters ≡ counters → a.room ≡ room → Trip os a
    too_long : longest < length os → a ≡ record { refusal = 9; place = 0; counters = counters; room = room } → Trip os a
