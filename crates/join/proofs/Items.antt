-- A LIST OF SINGLE ORDERS AND TRIPS does what the orders that are carried out do, one after the other: by lengths, and on lent memory.
-- Assumes nothing.
use mathlib.Core.Path.{◌≡◌, refl, sym, ap, ap₂, subst, ◌∙◌}
use mathlib.Core.Bool.{Bool, true, false, cond}
use mathlib.Core.List.{List, [], ◌∷◌, ◌++◌, append-nil, append_assoc}
use Prim.Native.Nat.{ℕ, zero, suc, ◌+◌, ◌≤◌, ◌<◌}
use native.Mathlib.Omega.{arith}
use lib.ListN.{length}
use lib.Dec.{leb, eqb}
use borrow.Author.Tests.{eq-eqb, ne_eqb}
use Rattle.columnar.specs.Row.{Row}
use Rattle.columnar.specs.Types.{Ty}
use Rattle.columnar.specs.Reading.{Column}
use Rattle.model.specs.Try.{Try, done, stop, then, guard, map_try, after}
use Rattle.model.specs.Grounds.{Counts}
use Rattle.model.specs.Transform.{Destination}
use Rattle.model.specs.Book.{Call, entered, nulls_entered}
use Rattle.model.specs.Held.{held}
use Rattle.model.proofs.CutTries.{done_is}
use Rattle.refinement.specs.walk_is_model.Memory.{Memory}
use Rattle.refinement.specs.orders.Order.{After, Lent, ordered, ordered_all}
use Rattle.refinement.specs.orders.Fits.{answers_in}
use Rattle.refinement.specs.orders.Counted.{answer_room, counts_after, book_room, nulls_room, accepted_room}
use Rattle.refinement.proofs.orders.Step.{Joined, Running, Answers, made, not_made, order_step_lem}
use Rattle.refinement.proofs.orders.Run.{orders_run}
use Rattle.refinement.proofs.orders.Booked.{ground_of, answer_is, booked}
use Rattle.refinement.proofs.orders.Accepted.{order_keeps}
use Rattle.trip.specs.Trip.{longest, AfterTrip, given_up, carried, trip_order}
use Rattle.trip.proofs.Trip.{ordered_behind, trip_leaves, trip_keeps}
use Rattle.join.specs.Items.{Item, one, trip, calls_in, item_order, items_all, item_grounds, in_turn, place_in, item_answer, trip_place, items_held, entered_all, nulls_all, items_book, items_nulls, carried_calls}

-- ---- by lengths alone

module _ (plan parts : List ℕ) (t : Ty) (keep : Bool) (m : ℕ) (ss : ℕ → Column t) where
  abbrev rows_of_calls : List Call → Counts → List Row
  rows_of_calls = book_room plan parts t keep m ss

  abbrev held_by : List Call → Counts → Counts
  held_by = counts_after plan parts t keep m ss

  abbrev nulls_by : List Call → Counts → ℕ
  nulls_by = nulls_room plan parts t keep m ss

  abbrev accepted_by : List Call → Counts → List Call
  accepted_by = accepted_room plan parts t keep m ss

  -- orders that are accepted in turn, and others behind them
  record InTurn (os ps : List Call) (c c' : Counts) : Type 0 where
    turn_held : held_by (os ++ ps) c ≡ held_by ps c'
    turn_rows : rows_of_calls (os ++ ps) c ≡ entered_all t keep m ss os ++ rows_of_calls ps c'
    turn_nulls : nulls_by (os ++ ps) c ≡ nulls_all t keep m ss os + nulls_by ps c'
    turn_accepted : accepted_by (os ++ ps) c ≡ os ++ accepted_by ps c'

  in_turn_lem : (os ps : List Call) (c c' : Counts) → in_turn plan parts t keep m ss os c ≡ done c' → InTurn os ps c c'
  in_turn_lem [] ps c c' e = let z = done_is e in rw z (record { turn_held = refl; turn_rows = refl; turn_nulls = omega arith; turn_accepted = refl })
  in_turn_lem (o ∷ os) ps c c' e = let r = go (answer_room plan parts t keep m ss o c) e (λ d. in_turn_lem os ps d c') in record { turn_held = r.0; turn_rows = r.1; turn_nulls = r.2; turn_accepted = r.3 }
    where
      go : (a : Try Counts) → then a (in_turn plan parts t keep m ss os) ≡ done c' → ((d : Counts) → in_turn plan parts t keep m ss os d ≡ done c' → InTurn os ps d c')
          → (held_by (os ++ ps) (after a c) ≡ held_by ps c')
          × (◌≡◌ {A = List Row} (elim a [ done d ↦ entered t keep m ss o ++ rows_of_calls (os ++ ps) d | stop g ↦ rows_of_calls (os ++ ps) c ]) ((entered t keep m ss o ++ entered_all t keep m ss os) ++ rows_of_calls ps c'))
          × (◌≡◌ {A = ℕ} (elim a [ done d ↦ nulls_entered t keep m ss o + nulls_by (os ++ ps) d | stop g ↦ nulls_by (os ++ ps) c ]) (nulls_entered t keep m ss o + nulls_all t keep m ss os + nulls_by ps c'))
          × (◌≡◌ {A = List Call} (elim a [ done d ↦ o ∷ accepted_by (os ++ ps) d | stop g ↦ accepted_by (os ++ ps) c ]) (o ∷ (os ++ accepted_by ps c')))
      go (done d) e f =
          let r = f d e in
          (r.turn_held, ap (entered t keep m ss o ++◌) r.turn_rows ∙ sym (append_assoc (entered t keep m ss o) _ _), omega (arith, r.turn_nulls), ap (o ∷◌) r.turn_accepted)
      go (stop g) e f = absurd (let z : ◌≡◌ {A = ℕ} 0 1 = cc e in omega arith)

  -- an item that is accepted is its orders in turn
  answer_turn : (i : Item) (c d : Counts) → item_answer plan parts t keep m ss i c ≡ done d → in_turn plan parts t keep m ss (calls_in i) c ≡ done d
  answer_turn (one o) c d e = go (answer_room plan parts t keep m ss o c) e
    where
      go : (a : Try Counts) → a ≡ done d → then a (in_turn plan parts t keep m ss []) ≡ done d
      go (done y) q = q
      go (stop g) q = absurd (let z : ◌≡◌ {A = ℕ} 0 1 = cc q in omega arith)
  answer_turn (trip os) c d e = go (leb (length os) longest) e
    where
      go : (b : Bool) → guard b 9 (in_turn plan parts t keep m ss os c) ≡ done d → in_turn plan parts t keep m ss os c ≡ done d
      go true q = q
      go false q = absurd (let z : ◌≡◌ {A = ℕ} 0 1 = cc q in omega arith)

  abbrev flat : List Item → Counts → List Call
  flat = carried_calls plan parts t keep m ss

  -- ITEMS ARE THE ORDERS THAT ARE CARRIED OUT: what is held, the book, the nulls; and each of these orders is accepted
  pub record Flat (is : List Item) (c : Counts) : Type 0 where
    pub flat_held : items_held plan parts t keep m ss is c ≡ held_by (flat is c) c
    pub flat_rows : items_book plan parts t keep m ss is c ≡ rows_of_calls (flat is c) c
    pub flat_nulls : items_nulls plan parts t keep m ss is c ≡ nulls_by (flat is c) c
    pub flat_accepted : accepted_by (flat is c) c ≡ flat is c

  pub items_flat : (is : List Item) (c : Counts) → Flat is c
  items_flat [] c = record { flat_held = refl; flat_rows = refl; flat_nulls = refl; flat_accepted = refl }
  items_flat (i ∷ is) c =
      let r = go (item_answer plan parts t keep m ss i c) refl (items_flat is) in
      record { flat_held = r.0; flat_rows = r.1; flat_nulls = r.2; flat_accepted = r.3 }
    where
      go : (a : Try Counts) → item_answer plan parts t keep m ss i c ≡ a → ((d : Counts) → Flat is d)
          → (items_held plan parts t keep m ss is (after a c) ≡ held_by (elim a [ done d ↦ calls_in i ++ flat is d | stop g ↦ flat is c ]) c)
          × (◌≡◌ {A = List Row} (elim a [ done d ↦ entered_all t keep m ss (calls_in i) ++ items_book plan parts t keep m ss is d | stop g ↦ items_book plan parts t keep m ss is c ]) (rows_of_calls (elim a [ done d ↦ calls_in i ++ flat is d | stop g ↦ flat is c ]) c))
          × (◌≡◌ {A = ℕ} (elim a [ done d ↦ nulls_all t keep m ss (calls_in i) + items_nulls plan parts t keep m ss is d | stop g ↦ items_nulls plan parts t keep m ss is c ]) (nulls_by (elim a [ done d ↦ calls_in i ++ flat is d | stop g ↦ flat is c ]) c))
          × (◌≡◌ {A = List Call} (accepted_by (elim a [ done d ↦ calls_in i ++ flat is d | stop g ↦ flat is c ]) c) (elim a [ done d ↦ calls_in i ++ flat is d | stop g ↦ flat is c ]))
      go (done d) e f =
          let r = in_turn_lem (calls_in i) (flat is d) c d (answer_turn i c d e) in
          let q = f d in (
            q.flat_held ∙ sym r.turn_held,
            ap (entered_all t keep m ss (calls_in i) ++◌) q.flat_rows ∙ sym r.turn_rows,
            ap (nulls_all t keep m ss (calls_in i) +◌) q.flat_nulls ∙ sym r.turn_nulls,
            r.turn_accepted ∙ ap (calls_in i ++◌) q.flat_accepted,
          )
      go (stop g) e f = let q = f c in (q.flat_held, q.flat_rows, q.flat_nulls, q.flat_accepted)

  -- the grounds of items
  abbrev pub answers_to : List Item → Counts → List ℕ
  answers_to [] c = []
  answers_to (i ∷ is) c = ground_of (item_answer plan parts t keep m ss i c) ∷ answers_to is (after (item_answer plan parts t keep m ss i c) c)

  -- what is held after an accepted item
  held_after_lem : (i : Item) (c d : Counts) → item_answer plan parts t keep m ss i c ≡ done d → held_by (calls_in i) c ≡ d
  held_after_lem i c d e = ap (λ os. held_by os c) (sym (append-nil (calls_in i))) ∙ (in_turn_lem (calls_in i) [] c d (answer_turn i c d e)).turn_held

-- ---- on lent memory

module _ (x : Lent) (t : Ty) (m : ℕ) (ss : ℕ → Column t) (join : Joined x t m ss) (keep : Bool) (c0 : List ℕ) (μ0 : Memory) where
  abbrev Runs : Destination t → List ℕ → List ℕ → Type 0
  Runs = Running x t m ss join keep c0 μ0

  -- a list's answer by lengths, with the place of the first refused order
  pub data Comes : Try Counts → ℕ → ℕ → ℕ → Type 0 where
    taken : (c' : Counts) (g p : ℕ) → g ≡ 0 → p ≡ 0 → Comes (done c') 0 g p
    stopped : (g' p' g p : ℕ) → 0 < g' → g ≡ g' → p ≡ p' → Comes (stop g') p' g p

  comes_in_turn : (b0 s0 : List ℕ) (os : List Call) (k : ℕ) (d : Destination t) (counters room : List ℕ) → Runs d counters room
      → Comes (in_turn x.plan x.parts t keep m ss os (held t d)) (place_in x.plan x.parts t keep m ss os k (held t d)) (carried x b0 s0 k counters room os).refusal (carried x b0 s0 k counters room os).place
  unfolding carried
  comes_in_turn b0 s0 [] k d counters room run = taken _ _ _ refl refl
  comes_in_turn b0 s0 (o ∷ os) k d counters room run =
      go (order_step_lem x t m ss join keep c0 μ0 o d counters room run) (answer_is x t m ss join keep c0 μ0 d counters room run o) (λ d' c r q. comes_in_turn b0 s0 os (suc k) d' c r q)
    where
      go : {p : Try (Destination t)} {s : Try Counts} {a : After} → Answers x t m ss join keep c0 μ0 o d counters room p a → map_try (held t) p ≡ s
          → ((d' : Destination t) (c r : List ℕ) → Runs d' c r → Comes (in_turn x.plan x.parts t keep m ss os (held t d')) (place_in x.plan x.parts t keep m ss os (suc k) (held t d')) (carried x b0 s0 (suc k) c r os).refusal (carried x b0 s0 (suc k) c r os).place)
          → Comes (then s (in_turn x.plan x.parts t keep m ss os)) (elim s [ done c' ↦ place_in x.plan x.parts t keep m ss os (suc k) c' | stop g ↦ k ])
          (cond (eqb a.refusal 0) (carried x b0 s0 (suc k) a.counters a.room os) (given_up x b0 s0 a.refusal k)).refusal
          (cond (eqb a.refusal 0) (carried x b0 s0 (suc k) a.counters a.room os) (given_up x b0 s0 a.refusal k)).place
      go (made d' a e r did) q f =
          subst
          (λ (s : Try Counts).
          Comes (then s (in_turn x.plan x.parts t keep m ss os)) (elim s [ done c' ↦ place_in x.plan x.parts t keep m ss os (suc k) c' | stop g ↦ k ])
          (cond (eqb a.refusal 0) (carried x b0 s0 (suc k) a.counters a.room os) (given_up x b0 s0 a.refusal k)).refusal
          (cond (eqb a.refusal 0) (carried x b0 s0 (suc k) a.counters a.room os) (given_up x b0 s0 a.refusal k)).place)
          q (rw (eq-eqb a.refusal 0 e) (f d' a.counters a.room r))
      go (not_made g a e l c s) q f =
          subst
          (λ (s : Try Counts).
          Comes (then s (in_turn x.plan x.parts t keep m ss os)) (elim s [ done c' ↦ place_in x.plan x.parts t keep m ss os (suc k) c' | stop g ↦ k ])
          (cond (eqb a.refusal 0) (carried x b0 s0 (suc k) a.counters a.room os) (given_up x b0 s0 a.refusal k)).refusal
          (cond (eqb a.refusal 0) (carried x b0 s0 (suc k) a.counters a.room os) (given_up x b0 s0 a.refusal k)).place)
          q (rw (ne_eqb a.refusal 0 (λ z. omega (arith, z, e, l))) (stopped g k a.refusal k l e refl))

  -- an item's answer by lengths
  pub data Said : Try Counts → ℕ → Type 0 where
    accepts : (c' : Counts) (g : ℕ) → g ≡ 0 → Said (done c') g
    refuses : (g' g : ℕ) → 0 < g' → g ≡ g' → Said (stop g') g

  comes_said : {s : Try Counts} {p' g p : ℕ} → Comes s p' g p → Said s g
  comes_said (taken c' g p e f) = accepts c' g e
  comes_said (stopped g' p' g p l e f) = refuses g' g l e

  pub said_ground : {s : Try Counts} {g : ℕ} → Said s g → g ≡ ground_of s
  said_ground (accepts c' g e) = e
  said_ground (refuses g' g l e) = e

  pub comes_place : {s : Try Counts} {p' g p : ℕ} → Comes s p' g p → p ≡ p'
  comes_place (taken c' g p e f) = f
  comes_place (stopped g' p' g p l e f) = f

  module _ (d : Destination t) (counters room : List ℕ) (run : Runs d counters room) where
    -- THE ANSWER AND THE PLACE OF A TRIP, by lengths
    pub trip_comes : (os : List Call)
        → Comes (item_answer x.plan x.parts t keep m ss (trip os) (held t d)) (trip_place x.plan x.parts t keep m ss os (held t d)) (trip_order x counters room os).refusal (trip_order x counters room os).place
    unfolding trip_order
    trip_comes os = go (leb (length os) longest)
      where
        go : (b : Bool)
            → Comes (guard b 9 (in_turn x.plan x.parts t keep m ss os (held t d))) (cond b (place_in x.plan x.parts t keep m ss os 0 (held t d)) 0)
            (cond b (carried x counters room 0 counters room os) (given_up x counters room 9 0)).refusal (cond b (carried x counters room 0 counters room os) (given_up x counters room 9 0)).place
        go true = comes_in_turn counters room os 0 d counters room run
        go false = stopped 9 0 9 0 (omega arith) refl refl

    -- THE ANSWER TO AN ITEM
    pub item_said : (i : Item) → Said (item_answer x.plan x.parts t keep m ss i (held t d)) (item_order x counters room i).refusal
    item_said (trip os) = comes_said (trip_comes os)
    item_said (one o) = go (order_step_lem x t m ss join keep c0 μ0 o d counters room run) (answer_is x t m ss join keep c0 μ0 d counters room run o)
      where
        go : {p : Try (Destination t)} {s : Try Counts} {a : After} → Answers x t m ss join keep c0 μ0 o d counters room p a → map_try (held t) p ≡ s → Said s a.refusal
        go (made d' a e r did) q = subst (λ (s : Try Counts). Said s a.refusal) q (accepts (held t d') a.refusal e)
        go (not_made g a e l c s) q = subst (λ (s : Try Counts). Said s a.refusal) q (refuses g a.refusal l e)

  -- an accepted item leaves what its orders leave, a refused one what was there, whatever is lent
  item_leaves : (counters room : List ℕ) (i : Item) → (item_order x counters room i).refusal ≡ 0
      → ((item_order x counters room i).counters ≡ (ordered_all x counters room (calls_in i)).counters) × ((item_order x counters room i).room ≡ (ordered_all x counters room (calls_in i)).room)
  unfolding ordered_all
  item_leaves counters room (one o) h = (refl, refl)
  item_leaves counters room (trip os) h = trip_leaves x counters room os h

  -- after any list of items
  pub record RanItems (is : List Item) (c : Counts) (counters room : List ℕ) : Type 0 where
    pub same_counters : (items_all x counters room is).counters ≡ (ordered_all x counters room (carried_calls x.plan x.parts t keep m ss is c)).counters
    pub same_room : (items_all x counters room is).room ≡ (ordered_all x counters room (carried_calls x.plan x.parts t keep m ss is c)).room
    pub same_answers : item_grounds x counters room is ≡ answers_to x.plan x.parts t keep m ss is c

  -- REFUSED, AN ITEM CHANGES NOTHING
  pub item_keeps : (counters room : List ℕ) (i : Item) → ((item_order x counters room i).refusal ≡ 0 → ⊥) → ((item_order x counters room i).counters ≡ counters) × ((item_order x counters room i).room ≡ room)
  item_keeps counters room (one o) = order_keeps x counters room o
  item_keeps counters room (trip os) = trip_keeps x counters room os

  pub items_run : (is : List Item) (d : Destination t) (counters room : List ℕ) → Runs d counters room → RanItems is (held t d) counters room
  unfolding items_all item_grounds ordered_all
  items_run [] d counters room run = record { same_counters = refl; same_room = refl; same_answers = refl }
  items_run (i ∷ is) d counters room run =
      let r = go (item_answer x.plan x.parts t keep m ss i (held t d)) refl (item_said d counters room run i) (λ d' c r q. items_run is d' c r q) in
      record { same_counters = r.0; same_room = r.1; same_answers = r.2 }
    where
      flatly : List Item → Counts → List Call
      flatly = carried_calls x.plan x.parts t keep m ss

      a : After
      a = item_order x counters room i

      go : (s : Try Counts) → item_answer x.plan x.parts t keep m ss i (held t d) ≡ s → Said s a.refusal
          → ((d' : Destination t) (c r : List ℕ) → Runs d' c r → RanItems is (held t d') c r)
          → ((items_all x a.counters a.room is).counters ≡ (ordered_all x counters room (elim s [ done c' ↦ calls_in i ++ flatly is c' | stop g ↦ flatly is (held t d) ])).counters)
          × ((items_all x a.counters a.room is).room ≡ (ordered_all x counters room (elim s [ done c' ↦ calls_in i ++ flatly is c' | stop g ↦ flatly is (held t d) ])).room)
          × (◌≡◌ {A = List ℕ} (a.refusal ∷ item_grounds x a.counters a.room is) (ground_of s ∷ answers_to x.plan x.parts t keep m ss is (after s (held t d))))
      go (done c') e (accepts y g h) f =
          let l = item_leaves counters room i h in
          let ran = (orders_run x t m ss join keep c0 μ0 (calls_in i) d counters room run).running in
          let heldIs : held t (answers_in x.plan x.parts t m ss (calls_in i) d) ≡ c' =
          (booked x t m ss join keep c0 μ0 (calls_in i) d counters room run).held_booked ∙ held_after_lem x.plan x.parts t keep m ss i (held t d) c' e in
          let r = subst (λ c. RanItems is c (ordered_all x counters room (calls_in i)).counters (ordered_all x counters room (calls_in i)).room) heldIs
          (f (answers_in x.plan x.parts t m ss (calls_in i) d) (ordered_all x counters room (calls_in i)).counters (ordered_all x counters room (calls_in i)).room ran) in (
            ap₂ (λ c r. (items_all x c r is).counters) l.0 l.1 ∙ r.same_counters ∙ ap (λ z. z.counters) (sym (ordered_behind x (calls_in i) (flatly is c') counters room)),
            ap₂ (λ c r. (items_all x c r is).room) l.0 l.1 ∙ r.same_room ∙ ap (λ z. z.room) (sym (ordered_behind x (calls_in i) (flatly is c') counters room)),
            ap₂ ◌∷◌ h (ap₂ (λ c r. item_grounds x c r is) l.0 l.1 ∙ r.same_answers),
          )
      go (stop g') e (refuses y g q h) f =
          let l = item_keeps counters room i (λ z. omega (arith, z, q, h)) in
          let r = f d counters room run in (
            ap₂ (λ c r. (items_all x c r is).counters) l.0 l.1 ∙ r.same_counters,
            ap₂ (λ c r. (items_all x c r is).room) l.0 l.1 ∙ r.same_room,
            ap₂ ◌∷◌ h (ap₂ (λ c r. item_grounds x c r is) l.0 l.1 ∙ r.same_answers),
          )
