-- How the code walks a list of orders: over counters whose length and over a plan which were tested once. Assumes nothing.
use Rattle.std.specs.Prelude.{◌≡◌, Bool, not, cond, ◌&&◌, List, ℕ, zero, suc, ◌-◌, min, leb, ltb, eqb}
use Rattle.clauses.specs.Slices.{was, began, left, Slice, MutSlice}
use Rattle.walk.specs.State.{keeps_of, far}
use Rattle.walk.specs.Log.{Out, Did, done, need, next, each}
use Rattle.walk.specs.Copy.{copy_walk}
use Rattle.walk.specs.Nulls.{null_walk}
use Rattle.plan.specs.parts.Parts.{parts_hold}
use Rattle.model.specs.Book.{Call, copy, nulls}
use Rattle.refinement.specs.orders.Order.{Lent, join_of, source_count, source_length}
use Rattle.trip.specs.declared.Ended.{Ended}
use Rattle.trip.specs.Trip.{call_at}

module _ (x : Lent) where
  -- the walk of an order, with 1, 2 and 3 before it
  unfoldable pub order_walk : Call → List ℕ → Out
  order_walk (copy s a e) c =
      need (ltb s (source_count x.plan)) 1 c (need (leb a e && leb e (source_length x s)) 2 c (copy_walk (join_of x s) 8 0 a (e - a) c))
  order_walk (nulls n) c = need (not (eqb (keeps_of x.plan 0) 0)) 3 c (null_walk (join_of x 0) 8 0 (min n far) c)

  -- .. and, where it is asked, 14 and 13 behind it; `within`: the parts lie in the room
  unfoldable pub order_step : Bool → Bool → Call → List ℕ → Out
  order_step ask within o c =
      next (order_walk o c) (λ c2. cond ask (need within 14 c2 (need (parts_hold x.plan c2 x.parts) 13 c2 (done c2))) (done c2))

  -- order number k of the words
  abbrev pub step_at : Bool → Bool → List ℕ → ℕ → List ℕ → Out
  step_at ask within words k c = order_step ask within (call_at words k) c

-- the first of f r, f (r + 1), .., n of them, that is refused; 0 where none is
unfoldable pub stops_at : (ℕ → List ℕ → Out) → ℕ → ℕ → List ℕ → ℕ
stops_at f zero r c = 0
stops_at f (suc n) r c = cond (eqb (f r c).ans 0) (stops_at f n (suc r) (f r c).counters) r

-- what a function that walks a list of steps does: the ground g and its place p, the counters and the room after it
pub record Stepped (plan parts : List ℕ) (write : Bool) (f : ℕ → List ℕ → Out) (n r : ℕ) (c room : List ℕ) (g p : ℕ) (c2 room2 : List ℕ) : Type 0 where
  pub did : Did plan parts write (each f n r c) room g c2 room2
  pub place : p ≡ stops_at f n r c

-- .. the steps from number 0 on, with the slices that it is lent
abbrev pub Steps : (plan parts : Slice) → Bool → (ℕ → List ℕ → Out) → ℕ → (counters room : MutSlice) → Ended → Type 0
Steps plan parts write f n counters room r =
    Stepped (was plan) (was parts) write f n 0 (began counters) (began room) r.refusal r.place (left counters) (left room)
