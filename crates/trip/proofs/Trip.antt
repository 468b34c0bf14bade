-- A LIST OF ORDERS IS ITS SINGLE CALLS, all or none, whatever is lent. Assumes nothing.
use mathlib.Core.Path.{◌≡◌, refl, sym, ap, ap₂, subst, ◌∙◌}
use mathlib.Core.Logic.{◌↔◌}
use mathlib.Core.Bool.{Bool, true, false, cond}
use mathlib.Core.List.{List, [], ◌∷◌, ◌++◌}
use Prim.Native.Nat.{ℕ, zero, suc, ◌+◌, ◌≤◌, ◌<◌}
use native.Mathlib.Decide.{dec_le}
use native.Mathlib.Omega.{arith}
use lib.ListN.{length, replicate}
use lib.Dec.{leb, eqb}
use borrow.Author.Tests.{eq-eqb, ne_eqb, eqb-true, eqb-false, leb-true, le-leb, lt-leb}
use Rattle.model.specs.Book.{Call}
use Rattle.refinement.specs.orders.Order.{After, Lent, ordered, ordered_all, grounds_of}
use Rattle.trip.specs.Trip.{longest, AfterTrip, given_up, carried, trip_order, order_measure, unasked, measured_trip, trip_measure}
use Rattle.trip.specs.Said.{EachAccepted, FirstRefused, Trip, all_made, none_made, too_long}

first_entry_lem : {a b : ℕ} {r s : List ℕ} → ◌≡◌ {A = List ℕ} (a ∷ r) (b ∷ s) → a ≡ b
first_entry_lem e = cc e

other_entries : {a b : ℕ} {r s : List ℕ} → ◌≡◌ {A = List ℕ} (a ∷ r) (b ∷ s) → r ≡ s
other_entries e = cc e

module _ (x : Lent) where
  -- calls behind calls
  pub ordered_behind : (os ps : List Call) (c r : List ℕ) → ordered_all x c r (os ++ ps) ≡ ordered_all x (ordered_all x c r os).counters (ordered_all x c r os).room ps
  unfolding ordered_all
  ordered_behind [] ps c r = refl
  ordered_behind (o ∷ os) ps c r = ordered_behind os ps (ordered x c r o).counters (ordered x c r o).room

  -- from order number k on
  data Goes (c0 r0 : List ℕ) (k : ℕ) (c r : List ℕ) (os : List Call) (a : AfterTrip) : Type 0 where
    made : EachAccepted x c r os → a ≡ record { refusal = 0; place = 0; counters = (ordered_all x c r os).counters; room = (ordered_all x c r os).room } → Goes c0 r0 k c r os a
    stopped : (p : ℕ) → (EachAccepted x c r os → ⊥) → FirstRefused x c r os a.refusal p → a.place ≡ k + p → a.counters ≡ c0 → a.room ≡ r0 → Goes c0 r0 k c r os a

  module _ (c0 r0 : List ℕ) where
    -- an order that is accepted, and the rest
    further : (o : Call) (k : ℕ) (c r : List ℕ) (os : List Call) (a : AfterTrip) → (ordered x c r o).refusal ≡ 0 → Goes c0 r0 (suc k) (ordered x c r o).counters (ordered x c r o).room os a → Goes c0 r0 k c r (o ∷ os) a
    unfolding ordered_all grounds_of
    further o k c r os a z (made h e) = made (ap₂ ◌∷◌ z h) e
    further o k c r os a z (stopped p h f q s t) =
        stopped (suc p) (λ y. h (other_entries y))
        (record {
          before = o ∷ f.before;
          failing = f.failing;
          behind = f.behind;
          in_list = ap (o ∷◌) f.in_list;
          before_accepted = ap₂ ◌∷◌ z f.before_accepted;
          ground_is = f.ground_is;
          stands = f.stands;
          place_is = ap suc f.place_is;
        })
        (omega (arith, q)) s t

    goes : (os : List Call) (k : ℕ) (c r : List ℕ) → Goes c0 r0 k c r os (carried x c0 r0 k c r os)
    unfolding carried ordered_all grounds_of
    goes [] k c r = made refl refl
    goes (o ∷ os) k c r = go (eqb (ordered x c r o).refusal 0) refl (goes os (suc k) (ordered x c r o).counters (ordered x c r o).room)
      where
        go : (b : Bool) → eqb (ordered x c r o).refusal 0 ≡ b → Goes c0 r0 (suc k) (ordered x c r o).counters (ordered x c r o).room os (carried x c0 r0 (suc k) (ordered x c r o).counters (ordered x c r o).room os)
            → Goes c0 r0 k c r (o ∷ os) (cond b (carried x c0 r0 (suc k) (ordered x c r o).counters (ordered x c r o).room os) (given_up x c0 r0 (ordered x c r o).refusal k))
        go true e g = further o k c r os _ (eqb-true _ _ e) g
        go false e g =
            let no : (ordered x c r o).refusal ≡ 0 → ⊥ = eqb-false _ _ e in
            stopped 0 (λ h. no (first_entry_lem h)) (record { before = []; failing = o; behind = os; in_list = refl; before_accepted = refl; ground_is = refl; stands = no; place_is = refl }) (omega arith) refl refl

  module _ (counters room : List ℕ) (os : List Call) where
    all_or_none : length os ≤ longest → (a : AfterTrip) → Goes counters room 0 counters room os a → Trip x counters room os a
    all_or_none l a (made h e) = all_made l h e
    all_or_none l a (stopped p h f q s t) = none_made l h (subst (FirstRefused x counters room os a.refusal) (sym (q ∙ omega arith)) f) s t

    -- THE THEOREM
    pub the_trip : Trip x counters room os (trip_order x counters room os)
    unfolding trip_order
    the_trip = go (dec_le (length os) longest)
      where
        go : Dec (length os ≤ longest) → Trip x counters room os (trip_order x counters room os)
        go (yes l) = rw (le-leb (length os) longest l) (all_or_none l _ (goes counters room os 0 counters room))
        go (no l) = rw (lt-leb (length os) longest (omega (arith, l))) (too_long (omega (arith, l)) refl)

    said : (a : AfterTrip) → Trip x counters room os a → (a.refusal ≡ 0) ↔ ((length os ≤ longest) × EachAccepted x counters room os)
    said a (all_made l h e) = ((λ z. (l, h)), λ z. ap (λ y. y.refusal) e)
    said a (none_made l h f s t) = ((λ z. absurd (f.stands z)), λ z. absurd (h z.1))
    said a (too_long l e) = ((λ z. absurd (let y = ap (λ y. y.refusal) e in omega (arith, z, y))), λ z. absurd (omega (arith, l, z.0)))

    -- ACCEPTED exactly where each is accepted when given one after the other
    pub trip_accepted : ((trip_order x counters room os).refusal ≡ 0) ↔ ((length os ≤ longest) × EachAccepted x counters room os)
    trip_accepted = said (trip_order x counters room os) the_trip

    leaves : (a : AfterTrip) → Trip x counters room os a → a.refusal ≡ 0 → (a.counters ≡ (ordered_all x counters room os).counters) × (a.room ≡ (ordered_all x counters room os).room)
    leaves a (all_made l h e) z = (ap (λ y. y.counters) e, ap (λ y. y.room) e)
    leaves a (none_made l h f s t) z = absurd (f.stands z)
    leaves a (too_long l e) z = absurd (let y = ap (λ y. y.refusal) e in omega (arith, z, y))

    -- .. with the counters and the room that they leave
    pub trip_leaves : (trip_order x counters room os).refusal ≡ 0 → ((trip_order x counters room os).counters ≡ (ordered_all x counters room os).counters) × ((trip_order x counters room os).room ≡ (ordered_all x counters room os).room)
    trip_leaves = leaves (trip_order x counters room os) the_trip

    keeps : (a : AfterTrip) → Trip x counters room os a → (a.refusal ≡ 0 → ⊥) → (a.counters ≡ counters) × (a.room ≡ room)
    keeps a (all_made l h e) z = absurd (z (ap (λ y. y.refusal) e))
    keeps a (none_made l h f s t) z = (s, t)
    keeps a (too_long l e) z = (ap (λ y. y.counters) e, ap (λ y. y.room) e)

    -- REFUSED, IT CHANGES NOTHING
    pub trip_keeps : ((trip_order x counters room os).refusal ≡ 0 → ⊥) → ((trip_order x counters room os).counters ≡ counters) × ((trip_order x counters room os).room ≡ room)
    trip_keeps = keeps (trip_order x counters room os) the_trip

-- THE PLACE of an answer is at most the length of the list, and so a number of one byte where an order is refused
place_carried : (x : Lent) (c0 r0 : List ℕ) (os : List Call) (k : ℕ) (c r : List ℕ) → (carried x c0 r0 k c r os).place ≤ k + length os
unfolding carried
place_carried x c0 r0 [] k c r = omega arith
place_carried x c0 r0 (o ∷ os) k c r = go (eqb (ordered x c r o).refusal 0) (place_carried x c0 r0 os (suc k) (ordered x c r o).counters (ordered x c r o).room)
  where
    go : (b : Bool) → (carried x c0 r0 (suc k) (ordered x c r o).counters (ordered x c r o).room os).place ≤ suc k + length os
        → (cond b (carried x c0 r0 (suc k) (ordered x c r o).counters (ordered x c r o).room os) (given_up x c0 r0 (ordered x c r o).refusal k)).place ≤ k + suc (length os)
    go true h = omega (arith, h)
    go false h = omega arith

pub place_trip : (x : Lent) (c r : List ℕ) (os : List Call) → (trip_order x c r os).place ≤ longest
unfolding trip_order
place_trip x c r os = go (leb (length os) longest) refl
  where
    go : (b : Bool) → leb (length os) longest ≡ b → (cond b (carried x c r 0 c r os) (given_up x c r 9 0)).place ≤ longest
    go true e = omega (arith, place_carried x c r os 0 c r, leb-true (length os) longest e)
    go false e = omega arith

place_measured : (x : Lent) (c0 : List ℕ) (os : List Call) (k : ℕ) (c : List ℕ) → (measured_trip x c0 k c os).place ≤ k + length os
unfolding measured_trip
place_measured x c0 [] k c = omega arith
place_measured x c0 (o ∷ os) k c = go (eqb (order_measure x c o).refusal 0) (place_measured x c0 os (suc k) (order_measure x c o).counters)
  where
    go : (b : Bool) → (measured_trip x c0 (suc k) (order_measure x c o).counters os).place ≤ suc k + length os
        → (cond b (measured_trip x c0 (suc k) (order_measure x c o).counters os) (unasked x c0 (order_measure x c o).refusal k)).place ≤ k + suc (length os)
    go true h = omega (arith, h)
    go false h = omega arith

pub place_asked : (x : Lent) (c : List ℕ) (os : List Call) → (trip_measure x c os).place ≤ longest
unfolding trip_measure
place_asked x c os = go (leb (length os) longest) refl
  where
    go : (b : Bool) → leb (length os) longest ≡ b → (cond b (measured_trip x c 0 c os) (unasked x c 9 0)).place ≤ longest
    go true e = omega (arith, place_measured x c os 0 c, leb-true (length os) longest e)
    go false e = omega arith
