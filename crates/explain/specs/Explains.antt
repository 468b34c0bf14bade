-- One order of a plan and counters that an order can be walked with: what stops it, and the counters that an accepted one leaves. Assumes nothing.
use Rattle.std.specs.Prelude.{◌≡◌, cond, ◌&&◌, List, ℕ, ◌-◌, leb, ltb, eqb}
use Rattle.clauses.specs.Slices.{began, left, MutSlice}
use Rattle.walk.specs.State.{keeps_of}
use Rattle.walk.specs.Log.{Out}
use Rattle.walk.specs.Copy.{copy_walk}
use Rattle.walk.specs.Nulls.{null_walk}
use Rattle.model.specs.Book.{Call, copy, nulls}
use Rattle.refinement.specs.orders.Order.{Lent, join_of, source_count, source_length}
use Rattle.trip.specs.Walk.{order_walk}
use Rattle.explain.specs.declared.stops.Why.{Why}
use Rattle.explain.specs.stops.Why.{only, unless}
use Rattle.explain.specs.stops.Copy.{why_copy}
use Rattle.explain.specs.stops.Nulls.{walked, why_nulls}
use Rattle.explain.specs.stops.Order.{why_settled}

-- a walk o from the counters c, which v stops, then 14 and 13: w is what stops it
pub record Settles (x : Lent) (m : ℕ) (c : List ℕ) (n : ℕ) (o : Out) (v w : Why) (c2 : List ℕ) : Type 0 where
  pub why : w ≡ why_settled x m c n o v
  pub left : w.refusal ≡ 0 → (o.ans ≡ 0) × (c2 ≡ o.counters)

-- .. both from the counters as they are lent
abbrev pub Settled : ℕ → (counters : MutSlice) → ℕ → (List ℕ → Out) → (List ℕ → Why) → Why → Lent → Type 0
Settled m counters n walk why w x = Settles x m (began counters) n (walk (began counters)) (why (began counters)) w counters.exit.now

-- `whyOrder` (stops/specs/Order.antt) without its first 14
abbrev pub why_call : Lent → ℕ → List ℕ → Call → Why
why_call x m c (copy s a e) =
    unless (ltb s (source_count x.plan)) (only 1)
    (unless (leb a e && leb e (source_length x s)) (only 2)
    (why_settled x m c (e - a) (copy_walk (join_of x s) 8 0 a (e - a) c) (why_copy (join_of x s) 8 0 a (e - a) c)))
why_call x m c (nulls n) =
    cond (eqb (keeps_of x.plan 0) 0) (only 3) (why_settled x m c n (null_walk (join_of x 0) 8 0 (walked n) c) (why_nulls (join_of x 0) 8 0 n c))

pub record Explains (x : Lent) (m : ℕ) (o : Call) (c : List ℕ) (w : Why) (c2 : List ℕ) : Type 0 where
  pub why : w ≡ why_call x m c o
  pub left : w.refusal ≡ 0 → ((order_walk x o c).ans ≡ 0) × (c2 ≡ (order_walk x o c).counters)
