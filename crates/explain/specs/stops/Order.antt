-- WHAT STOPS AN ORDER on lent memory, and a list of orders. 1, 2, 3 and 9 name no node; nor do 12 and 14, which only a state, sources or room
-- that no call left gets. Assumes nothing.
use Rattle.std.specs.Prelude.{cond, ◌&&◌, List, [], ◌∷◌, ℕ, suc, ◌+◌, ◌-◌, length, leb, ltb, eqb}
use Rattle.walk.specs.State.{keeps_of, rows}
use Rattle.walk.specs.Log.{Out}
use Rattle.walk.specs.Copy.{copy_walk}
use Rattle.walk.specs.Nulls.{null_walk}
use Rattle.plan.specs.parts.Parts.{parts_within}
use Rattle.model.specs.Book.{Call, copy, nulls}
use Rattle.refinement.specs.orders.Sound.{walkable}
use Rattle.refinement.specs.orders.Order.{Lent, join_of, source_count, source_length}
use Rattle.trip.specs.Trip.{longest, order_measure}
use Rattle.explain.specs.declared.stops.Why.{Why}
use Rattle.explain.specs.declared.stops.WhyListed.{WhyListed}
use Rattle.explain.specs.stops.Why.{only, nothing, unless, past}
use Rattle.explain.specs.stops.Copy.{why_copy}
use Rattle.explain.specs.stops.Nulls.{walked, why_nulls}
use Rattle.explain.specs.stops.Parts.{why_parts}

-- m: the bytes of the room, which is not read
module _ (x : Lent) (m : ℕ) (counters : List ℕ) where
  -- the walk, then 14 and 13; n rows are ordered
  unfoldable pub why_settled : ℕ → Out → Why → Why
  why_settled n o w =
      past o w (λ c2. unless (parts_within x.plan x.parts m) (only 14) (why_parts x.plan c2 x.parts (rows counters 0 + n)))

  unfoldable pub why_copy_order : ℕ → ℕ → ℕ → Why
  why_copy_order s a e =
      unless (eqb (length counters) 96) (only 14)
      (unless (walkable x.plan m) (only 14)
      (unless (ltb s (source_count x.plan)) (only 1)
      (unless (leb a e && leb e (source_length x s)) (only 2)
      (why_settled (e - a) (copy_walk (join_of x s) 8 0 a (e - a) counters) (why_copy (join_of x s) 8 0 a (e - a) counters)))))

  unfoldable pub why_null_order : ℕ → Why
  why_null_order n =
      unless (eqb (length counters) 96) (only 14)
      (unless (walkable x.plan m) (only 14)
      (cond (eqb (keeps_of x.plan 0) 0) (only 3)
      (why_settled n (null_walk (join_of x 0) 8 0 (walked n) counters) (why_nulls (join_of x 0) 8 0 n counters))))

  abbrev pub why_order : Call → Why
  why_order (copy s a e) = why_copy_order s a e
  why_order (nulls n) = why_null_order n

-- ---- "Inside a W3 list it speaks of the first failing order"

module _ (x : Lent) (m : ℕ) where
  abbrev pub listed : ℕ → Why → WhyListed
  listed k w = record { place = k; why = w }

  -- the orders from number k on, each from the counters that the one before it comes to
  unfoldable pub why_listed_from : ℕ → List ℕ → List Call → WhyListed
  why_listed_from k c [] = listed 0 nothing
  why_listed_from k c (o ∷ os) =
      cond (eqb (why_order x m c o).refusal 0) (why_listed_from (suc k) (order_measure x c o).counters os) (listed k (why_order x m c o))

  -- "a list too long is 9 with zeros"
  unfoldable pub why_trip : List ℕ → List Call → WhyListed
  why_trip counters os = cond (leb (length os) longest) (why_listed_from 0 counters os) (listed 0 (only 9))
