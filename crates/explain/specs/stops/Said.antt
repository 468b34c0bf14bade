-- "Inside a W3 list it speaks of the first failing order": over single calls alone (refinement/specs/orders/Order.antt). Assumes nothing.
use Rattle.std.specs.Prelude.{◌≡◌, List, ◌∷◌, ◌++◌, ℕ, ◌≤◌, ◌<◌, length}
use Rattle.model.specs.Book.{Call}
use Rattle.refinement.specs.orders.Order.{Lent, ordered_all}
use Rattle.trip.specs.Trip.{longest}
use Rattle.trip.specs.Said.{EachAccepted}
use Rattle.explain.specs.declared.stops.WhyListed.{WhyListed}
use Rattle.explain.specs.stops.Why.{only, nothing}
use Rattle.explain.specs.stops.Order.{why_order, listed}

module _ (x : Lent) (counters room : List ℕ) where
  -- those before it are accepted, and it is explained from the counters that they leave
  pub record FirstStopped (os : List Call) (a : WhyListed) : Type 0 where
    pub before : List Call
    pub failing : Call
    pub behind : List Call
    pub in_list : os ≡ before ++ failing ∷ behind
    pub before_accepted : EachAccepted x counters room before
    pub why_is : a.why ≡ why_order x (length room) (ordered_all x counters room before).counters failing
    pub stands : a.why.refusal ≡ 0 → ⊥
    pub place_is : a.place ≡ length before

  pub data Explained (os : List Call) (a : WhyListed) : Type 0 where
    nothing_stopped : length os ≤ longest → EachAccepted x counters room os → a ≡ listed x (length room) 0 nothing → Explained os a
    stopped_at : length os ≤ longest → FirstStopped os a → Explained os a
    list_too_long : longest < length os → a ≡ listed x (length room) 0 (only 9) → Explained os a
