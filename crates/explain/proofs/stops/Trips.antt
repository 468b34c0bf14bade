-- WHAT STOPS A LIST OF ORDERS is what stops its first failing order, whatever is lent. Assumes nothing.
use mathlib.Core.Path.{◌≡◌, refl, sym, ap, ap₂, subst, ◌∙◌}
use mathlib.Core.Bool.{Bool, true, false, cond, ◌&&◌}
use mathlib.Core.List.{List, [], ◌∷◌, ◌++◌}
use Prim.Native.Nat.{ℕ, zero, suc, ◌+◌, ◌-◌, ◌≤◌, ◌<◌, min}
use native.Mathlib.Omega.{arith}
use native.Mathlib.Decide.{dec_le}
use lib.ListN.{length}
use lib.Dec.{leb, ltb, eqb}
use borrow.Author.Tests.{eqb-true, eqb-false, eq-eqb, ne_eqb, le-leb, lt-leb}
use Rattle.array_data.proofs.lent_tables.Laws.{and_right}
use Rattle.walk.specs.State.{keeps_of, far}
use Rattle.walk.specs.Log.{Out, apply}
use Rattle.walk.specs.Copy.{copy_walk}
use Rattle.walk.specs.Nulls.{null_walk}
use Rattle.plan.specs.parts.Parts.{parts_within, parts_hold}
use Rattle.model.specs.Book.{Call, copy, nulls}
use Rattle.refinement.specs.orders.Sound.{plan_sound, walkable}
use Rattle.columns.specs.Grounds.{ceiling}
use Rattle.refinement.specs.orders.Order.{After, Lent, join_of, source_count, source_length, refused, settled, copy_order, null_order, ordered, ordered_all, grounds_of}
use Rattle.refinement.specs.orders.Measure.{Measured, measured, unmeasured, copy_measure, null_measure}
use Rattle.trip.specs.Trip.{longest, AfterTrip, given_up, carried, trip_order, order_measure}
use Rattle.trip.specs.Said.{EachAccepted}
use Rattle.trip.proofs.Long.{apply_long}
use Rattle.explain.specs.declared.stops.Why.{Why}
use Rattle.explain.specs.declared.stops.WhyListed.{WhyListed}
use Rattle.explain.specs.stops.Why.{only, nothing}
use Rattle.explain.specs.stops.Order.{why_order, listed, why_listed_from, why_trip}
use Rattle.explain.specs.stops.Table.{accepted, too_long, Stated, blank}
use Rattle.explain.specs.stops.Said.{FirstStopped, Explained, nothing_stopped, stopped_at, list_too_long}
use Rattle.explain.proofs.stops.Orders.{Tells, order_tells}

-- ---- an accepted order leaves the counters that are measured, and as many bytes

module _ (x : Lent) (c r : List ℕ) where
  pub record Leaves (a : After) (q : Measured) : Type 0 where
    pub counters : a.counters ≡ q.counters
    pub size : length a.room ≡ length r

  settled_leaves : (o : Out) → (settled x c r o).refusal ≡ 0 → Leaves (settled x c r o) (measured c o)
  unfolding settled measured
  settled_leaves o = go (eqb o.ans 0) refl (parts_within x.plan x.parts (length r)) (parts_hold x.plan o.counters x.parts)
    where
      after : Bool → Bool → Bool → After
      after a b d = cond a (cond b (cond d (record { refusal = 0; counters = o.counters; room = apply x.plan x.parts o.log r }) (refused x c r 13)) (refused x c r 14)) (refused x c r o.ans)

      go : (a : Bool) → eqb o.ans 0 ≡ a → (b d : Bool) → (after a b d).refusal ≡ 0 → Leaves (after a b d) (cond a (record { refusal = 0; counters = o.counters }) (unmeasured c o.ans))
      go true e true true z = record { counters = refl; size = apply_long x.plan x.parts o.log r }
      go true e true false z = absurd (omega (arith, z))
      go true e false d z = absurd (omega (arith, z))
      go false e b d z = absurd (eqb-false _ _ e z)

  sound_plan : (q : Bool) → walkable x.plan (length r) ≡ q → q ≡ true → plan_sound x.plan ≡ true
  unfolding walkable
  sound_plan q e h = and_right (leb (length r) ceiling) _ (e ∙ h)

  order_leaves : (o : Call) → (ordered x c r o).refusal ≡ 0 → Leaves (ordered x c r o) (order_measure x c o)
  unfolding copy_order copy_measure null_order null_measure
  order_leaves (copy s a e) = go (eqb (length c) 96) (walkable x.plan (length r)) (ltb s (source_count x.plan)) (leb a e && leb e (source_length x s)) refl
    where
      o : Out
      o = copy_walk (join_of x s) 8 0 a (e - a) c

      go : (p q u t : Bool) → walkable x.plan (length r) ≡ q
          → (cond p (cond q (cond u (cond t (settled x c r o) (refused x c r 2)) (refused x c r 1)) (refused x c r 14)) (refused x c r 14)).refusal ≡ 0
          → Leaves (cond p (cond q (cond u (cond t (settled x c r o) (refused x c r 2)) (refused x c r 1)) (refused x c r 14)) (refused x c r 14))
          (cond p (cond (plan_sound x.plan) (cond u (cond t (measured c o) (unmeasured c 2)) (unmeasured c 1)) (unmeasured c 14)) (unmeasured c 14))
      go true true true true h z = rw (sound_plan true h refl) (settled_leaves o z)
      go true true true false h z = absurd (omega (arith, z))
      go true true false t h z = absurd (omega (arith, z))
      go true false u t h z = absurd (omega (arith, z))
      go false q u t h z = absurd (omega (arith, z))
  order_leaves (nulls n) = go (eqb (length c) 96) (walkable x.plan (length r)) (eqb (keeps_of x.plan 0) 0) refl
    where
      o : Out
      o = null_walk (join_of x 0) 8 0 (min n far) c

      go : (p q u : Bool) → walkable x.plan (length r) ≡ q
          → (cond p (cond q (cond u (refused x c r 3) (settled x c r o)) (refused x c r 14)) (refused x c r 14)).refusal ≡ 0
          → Leaves (cond p (cond q (cond u (refused x c r 3) (settled x c r o)) (refused x c r 14)) (refused x c r 14))
          (cond p (cond (plan_sound x.plan) (cond u (unmeasured c 3) (measured c o)) (unmeasured c 14)) (unmeasured c 14))
      go true true true h z = absurd (omega (arith, z))
      go true true false h z = rw (sound_plan true h refl) (settled_leaves o z)
      go true false u h z = absurd (omega (arith, z))
      go false q u h z = absurd (omega (arith, z))

-- ---- the list

pub record TellsTrip (w : WhyListed) (a : AfterTrip) : Type 0 where
  pub refusal : w.why.refusal ≡ a.refusal
  pub place : w.place ≡ a.place
  pub table : Stated w.why

module _ (x : Lent) (c0 r0 : List ℕ) where
  abbrev m : ℕ
  m = length r0

  order_says : (c r : List ℕ) (o : Call) → length r ≡ m → Tells (why_order x m c o) (ordered x c r o)
  order_says c r o e = subst (λ z. Tells (why_order x z c o) (ordered x c r o)) e (order_tells x c r o)

  from_tells : (os : List Call) (k : ℕ) (c r : List ℕ) → length r ≡ m → TellsTrip (why_listed_from x m k c os) (carried x c0 r0 k c r os)
  unfolding why_listed_from carried
  from_tells [] k c r e = record { refusal = refl; place = refl; table = blank 0 accepted }
  from_tells (o ∷ os) k c r e = go (eqb (ordered x c r o).refusal 0) refl (λ d s h. from_tells os (suc k) d s h)
    where
      t : Tells (why_order x m c o) (ordered x c r o)
      t = order_says c r o e

      go : (b : Bool) → eqb (ordered x c r o).refusal 0 ≡ b → ((d s : List ℕ) → length s ≡ m → TellsTrip (why_listed_from x m (suc k) d os) (carried x c0 r0 (suc k) d s os))
          → TellsTrip (cond (eqb (why_order x m c o).refusal 0) (why_listed_from x m (suc k) (order_measure x c o).counters os) (listed x m k (why_order x m c o)))
          (cond b (carried x c0 r0 (suc k) (ordered x c r o).counters (ordered x c r o).room os) (given_up x c0 r0 (ordered x c r o).refusal k))
      go true h f =
          let z = eqb-true _ _ h in
          let l = order_leaves x c r o z in
          let s = f (ordered x c r o).counters (ordered x c r o).room (l.size ∙ e) in
          rw (eq-eqb (why_order x m c o).refusal 0 (t.refusal ∙ z))
          (subst (λ d. TellsTrip (why_listed_from x m (suc k) d os) (carried x c0 r0 (suc k) (ordered x c r o).counters (ordered x c r o).room os)) l.counters s)
      go false h f =
          rw (ne_eqb (why_order x m c o).refusal 0 (λ z. eqb-false _ _ h (sym t.refusal ∙ z)))
          (record { refusal = t.refusal; place = refl; table = t.table })

  -- THE THEOREM: ground and place are those of the list
  pub trip_tells : (os : List Call) → TellsTrip (why_trip x m c0 os) (trip_order x c0 r0 os)
  unfolding why_trip trip_order
  trip_tells os = go (leb (length os) longest)
    where
      go : (b : Bool) → TellsTrip (cond b (why_listed_from x m 0 c0 os) (listed x m 0 (only 9))) (cond b (carried x c0 r0 0 c0 r0 os) (given_up x c0 r0 9 0))
      go true = from_tells os 0 c0 r0 refl
      go false = record { refusal = refl; place = refl; table = blank 9 too_long }

-- ---- the first that is stopped

module _ (x : Lent) (m : ℕ) where
  data From (k : ℕ) (c r : List ℕ) (os : List Call) (a : WhyListed) : Type 0 where
    all_go : EachAccepted x c r os → a ≡ listed x m 0 nothing → From k c r os a
    stops : (before : List Call) (failing : Call) (behind : List Call) → os ≡ before ++ failing ∷ behind → EachAccepted x c r before
        → a.why ≡ why_order x m (ordered_all x c r before).counters failing → (a.why.refusal ≡ 0 → ⊥) → a.place ≡ k + length before → From k c r os a

  further : (o : Call) (k : ℕ) (c r : List ℕ) (os : List Call) (a : WhyListed) → (ordered x c r o).refusal ≡ 0 → From (suc k) (ordered x c r o).counters (ordered x c r o).room os a → From k c r (o ∷ os) a
  unfolding ordered_all grounds_of
  further o k c r os a z (all_go h e) = all_go (ap₂ ◌∷◌ z h) e
  further o k c r os a z (stops b f t l h w s p) = stops (o ∷ b) f t (ap (o ∷◌) l) (ap₂ ◌∷◌ z h) w s (omega (arith, p))

  from_first : (os : List Call) (k : ℕ) (c r : List ℕ) → length r ≡ m → From k c r os (why_listed_from x m k c os)
  unfolding why_listed_from ordered_all grounds_of
  from_first [] k c r e = all_go refl refl
  from_first (o ∷ os) k c r e = go (eqb (why_order x m c o).refusal 0) refl (λ d s h. from_first os (suc k) d s h)
    where
      t : Tells (why_order x m c o) (ordered x c r o)
      t = subst (λ z. Tells (why_order x z c o) (ordered x c r o)) e (order_tells x c r o)

      go : (b : Bool) → eqb (why_order x m c o).refusal 0 ≡ b → ((d s : List ℕ) → length s ≡ m → From (suc k) d s os (why_listed_from x m (suc k) d os))
          → From k c r (o ∷ os) (cond b (why_listed_from x m (suc k) (order_measure x c o).counters os) (listed x m k (why_order x m c o)))
      go true h f =
          let z = sym t.refusal ∙ eqb-true _ _ h in
          let l = order_leaves x c r o z in
          let s = f (ordered x c r o).counters (ordered x c r o).room (l.size ∙ e) in
          further o k c r os _ z (subst (λ d. From (suc k) (ordered x c r o).counters (ordered x c r o).room os (why_listed_from x m (suc k) d os)) l.counters s)
      go false h f = stops [] o os refl refl refl (eqb-false _ _ h) (omega arith)

module _ (x : Lent) (counters room : List ℕ) (os : List Call) where
  first_of_lem : length os ≤ longest → (a : WhyListed) → From x (length room) 0 counters room os a → Explained x counters room os a
  first_of_lem l a (all_go h e) = nothing_stopped l h e
  first_of_lem l a (stops b f t p h w s q) =
      stopped_at l (record { before = b; failing = f; behind = t; in_list = p; before_accepted = h; why_is = w; stands = s; place_is = q ∙ omega arith })

  -- THE THEOREM: the first failing order, from the counters that those before it leave
  pub trip_explained : Explained x counters room os (why_trip x (length room) counters os)
  unfolding why_trip
  trip_explained = go (dec_le (length os) longest)
    where
      go : Dec (length os ≤ longest) → Explained x counters room os (why_trip x (length room) counters os)
      go (yes l) = rw (le-leb (length os) longest l) (first_of_lem l _ (from_first x (length room) os 0 counters room refl))
      go (no l) = rw (lt-leb (length os) longest (omega (arith, l))) (list_too_long (omega (arith, l)) refl)
