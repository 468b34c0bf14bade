-- DEMAND 1: every call is carried out or refused, exactly by 01's numbers, and a refusal changes nothing. Assumes nothing.
use mathlib.Core.Path.{◌≡◌, refl, sym, ap, subst, ◌∙◌}
use mathlib.Core.Bool.{Bool, true, false, cond, ◌&&◌}
use mathlib.Core.List.{List}
use Prim.Native.Nat.{ℕ, ◌≤◌, ◌<◌}
use native.Mathlib.Omega.{arith}
use lib.ListN.{length}
use lib.Dec.{leb, eqb}
use borrow.Author.Tests.{leb-true, eqb-true, eqb-false}
use Rattle.model.specs.Try.{Try, done, stop, then, guard, map_try}
use Rattle.model.specs.Book.{Call}
use Rattle.model.specs.Held.{held}
use Rattle.refinement.specs.orders.Order.{Lent, ordered}
use Rattle.refinement.specs.orders.Fits.{fits}
use Rattle.refinement.proofs.orders.Accepted.{order_keeps}
use Rattle.refinement.proofs.orders.Booked.{ground_of, answer_is, ground_is}
use Rattle.refinement.proofs.opening.Opened.{Opened, opening_refused, opening_ground, orders_after}
use Rattle.join.specs.Join.{Lending, Bytes, sources_in, type_in, columns_in, keeps_in, opening_of, lent_of, after_calls, next_call, open_answer, first, reached_by, answer_to, held_after}
use Rattle.join.proofs.Opens.{runs, sources_answer, small, placed, room_first, sources_next, parts_next}
use Rattle.join.proofs.Numbers.{Ordinary, of_order, of_room, number_among}
use Rattle.join.specs.Openings.{data_opens}
use Rattle.join.proofs.Openings.{opens_in_one}
use Rattle.join.proofs.Lengths.{call_by_lengths}

-- ---- THE OPENING

module _ (l : Lending) where
  -- REFUSED, IT CHANGES NOTHING, whatever is lent: "State and every byte stay."
  pub opening_keeps : ((opening_of l).refusal ≡ 0 → ⊥) → ((opening_of l).plan ≡ l.plan) × ((opening_of l).counters ≡ l.counters) × ((opening_of l).room ≡ l.room)
  opening_keeps = opening_refused l.formats l.schema l.sources l.tables l.keep l.gaps l.parts l.plan l.counters l.room

  -- THE ANSWER is 0 where no ground stands, else the first in 01's order
  pub opening_answered : Bytes l → (opening_of l).refusal ≡ ground_of (open_answer l)
  opening_answered b = go (small l) refl (eqb (sources_answer l) 0) refl (placed l) refl
    where
      go : (x : Bool) → small l ≡ x → (y : Bool) → eqb (sources_answer l) 0 ≡ y → (z : Bool) → placed l ≡ z
          → (opening_of l).refusal
          ≡ ground_of (guard x 9 (then (cond y (done tt) (stop (sources_answer l))) (λ (u : Unit {0}). guard z 14
          (then (data_opens (lent_of l).plan l.parts (sources_in l) (type_in l) 0 (λ j. (columns_in l j).body)) (λ v. guard (fits (lent_of l).plan l.parts (type_in l) 0 (first l) && v) 13 (done (first l)))))))
      go false e y f z g = room_first l e
      go true e false f z g = sources_next l e f
      go true e true f false g = parts_next l e f g
      go true e true f true g =
          opening_ground l.formats l.schema l.sources l.tables l.keep l.gaps l.parts l.plan l.counters l.room b.body_bytes b.room_bytes (leb-true _ _ e) (eqb-true _ _ f) g
          ∙ sym (ap ground_of (opens_in_one (lent_of l).plan l.parts (sources_in l) l.gaps (type_in l) l.keep (columns_in l)))

  -- the plan that it leaves is the one that every later call is lent
  pub plan_left : Bytes l → (opening_of l).refusal ≡ 0 → (opening_of l).plan ≡ (lent_of l).plan
  plan_left b h = (runs l b h).plan_is

-- ---- THE CALLS

same_ground_lem : {A B : Type 0} (f : A → B) (p : Try A) → ground_of (map_try f p) ≡ ground_of p
same_ground_lem f (done x) = refl
same_ground_lem f (stop g) = refl

-- REFUSED, A CALL CHANGES NOTHING, whatever plan, parts, sources, counters and room it is lent
module _ (x : Lent) (counters room : List ℕ) where
  pub call_keeps : (o : Call) → ((ordered x counters room o).refusal ≡ 0 → ⊥) → ((ordered x counters room o).counters ≡ counters) × ((ordered x counters room o).room ≡ room)
  call_keeps = order_keeps x counters room

-- after an accepted opening and any list of calls, refused ones included
module _ (l : Lending) (b : Bytes l) (accepted : (opening_of l).refusal ≡ 0) (os : List Call) where
  abbrev opens : Opened l.formats l.schema l.sources l.tables l.keep l.gaps l.parts (opening_of l)
  opens = runs l b accepted

  -- THE ANSWER TO ONE MORE CALL is 0 where no ground of 01 stands, else the number of the first in 01's order
  pub call_answered : (o : Call) → (next_call l os o).refusal ≡ ground_of (answer_to l os o)
  call_answered o =
      let run = (orders_after l.formats l.schema l.sources l.tables l.keep l.gaps l.parts (opening_of l) opens os).running in
      ground_is (lent_of l) (type_in l) (sources_in l) (columns_in l) opens.join (keeps_in l) (opening_of l).counters opens.memory (reached_by l os) (after_calls l os).counters (after_calls l os).room run o
      ∙ sym
      (ap ground_of
      (answer_is (lent_of l) (type_in l) (sources_in l) (columns_in l) opens.join (keeps_in l) (opening_of l).counters opens.memory (reached_by l os) (after_calls l os).counters (after_calls l os).room run o))
      ∙ same_ground_lem (held (type_in l)) (answer_to l os o)

  -- THE TESTS FOR FOREIGN MEMORY NEVER FIRE: the answer is 0 to 7, or 13
  pub never_foreign : (o : Call) → 7 < (next_call l os o).refusal → (next_call l os o).refusal ≡ 13
  never_foreign o p = go (number_among (type_in l) (keeps_in l) (sources_in l) (columns_in l) (lent_of l).plan l.parts o (held_after l os)) (call_by_lengths l b accepted os o) p
    where
      go : {g h : ℕ} → Ordinary (type_in l) (keeps_in l) (sources_in l) (columns_in l) (lent_of l).plan l.parts h → g ≡ h → 7 < g → g ≡ 13
      go (of_order q) e r = absurd (omega (arith, q, e, r))
      go (of_room q) e r = e ∙ q
