-- What the entry points for a list come to, by the ways that the code goes. Assumes nothing.
use mathlib.Core.Path.{◌≡◌, refl, sym, ap, ap₂, subst, ◌∙◌}
use mathlib.Core.Bool.{Bool, true, false, not, cond, ◌&&◌}
use mathlib.Core.List.{List, [], ◌∷◌}
use Prim.Native.Nat.{ℕ, zero, suc, ◌+◌, ◌*◌, ◌-◌, ◌≤◌, ◌<◌, ◌/◌, min}
use native.Mathlib.Numerals.{add-one}
use native.Mathlib.Omega.{arith}
use lib.ListN.{length, get_or}
use lib.Dec.{leb, ltb, eqb}
use borrow.Author.Tests.{eq-eqb, ne_eqb, le-leb, lt-leb, lt-ltb, le-ltb}
use Rattle.walk.specs.State.{keeps_of, far}
use Rattle.walk.specs.Log.{Out, Did, apply_if, done, need}
use Rattle.walk.specs.Copy.{copy_walk}
use Rattle.walk.specs.Nulls.{null_walk}
use Rattle.walk.proofs.Laws.{done_did, need_no, need_ok, next_no, next_ok, each_none, each_stop, each_more}
use Rattle.leaf_walk.specs.Join.{join}
use Rattle.transform.proofs.Laws.{null_plan}
use Rattle.plan.specs.parts.Parts.{parts_within, parts_hold}
use Rattle.model.specs.Book.{Call, copy, nulls}
use Rattle.refinement.specs.orders.Sound.{plan_sound, walkable}
use Rattle.refinement.specs.orders.Order.{Lent, source_count, ordered, copy_order, null_order}
use Rattle.refinement.specs.orders.Measure.{copy_measure, null_measure}
use Rattle.sound.specs.trying.Alike.{Alike}
use Rattle.trip.specs.declared.Ended.{Ended}
use Rattle.trip.specs.Trip.{longest, call_of, call_at, calls_from, calls_of, AfterTrip, given_up, carried, trip_order, order_measure, AskedTrip, unasked, measured_trip, trip_measure}
use Rattle.trip.specs.Walk.{order_walk, order_step, step_at, stops_at, Stepped}
use Rattle.trip.specs.Answer.{Ends, Asks}
use Rattle.trip.proofs.Steps.{carried_keeps, Tried, tried, written, measured_list}

-- ---- steps one after the other

-- where the rest is walked, so is the whole: what the loop keeps
abbrev pub Left : List ℕ → List ℕ → Bool → (ℕ → List ℕ → Out) → ℕ → ℕ → List ℕ → List ℕ → ℕ → List ℕ → List ℕ → Type 0
Left plan parts write f n k c room n0 c0 room0 =
    (g p : ℕ) (c2 room2 : List ℕ) → Stepped plan parts write f n k c room g p c2 room2 → Stepped plan parts write f n0 0 c0 room0 g p c2 room2

module _ {plan parts : List ℕ} (write : Bool) (f : ℕ → List ℕ → Out) where
  pub stepped_none : (n k : ℕ) (c room : List ℕ) → n ≡ 0 → Stepped plan parts write f n k c room 0 0 c room
  unfolding stops_at
  stepped_none n k c room e = record { did = each_none write f n k c room e; place = rw e refl }

  pub stepped_stop : (n n' k : ℕ) (c room : List ℕ) {g : ℕ} {c1 room1 : List ℕ} → n ≡ suc n' → Did plan parts write (f k c) room g c1 room1 → (g ≡ 0 → ⊥)
      → Stepped plan parts write f n k c room g k c1 room1
  unfolding stops_at
  stepped_stop n n' k c room e d h = record { did = each_stop write f n n' k c room e d h; place = rw (e, ne_eqb (f k c).ans 0 (λ z. h (d.answer ∙ z))) refl }

  pub stepped_more : (n n' k k' : ℕ) (c room : List ℕ) {g : ℕ} {c1 room1 : List ℕ} {g2 p2 : ℕ} {c2 room2 : List ℕ} → n ≡ suc n' → k' ≡ k + 1 → Did plan parts write (f k c) room g c1 room1 → g ≡ 0
      → Stepped plan parts write f n' k' c1 room1 g2 p2 c2 room2 → Stepped plan parts write f n k c room g2 p2 c2 room2
  unfolding stops_at
  stepped_more n n' k k' c room {c1 = c1} e q d h s =
      record {
        did = each_more write f n n' k k' c room e q d h s.did;
        place = rw (e, eq-eqb (f k c).ans 0 (sym d.answer ∙ h)) (s.place ∙ ap (λ z. stops_at f n' z c1) (q ∙ add-one k) ∙ ap (stops_at f n' (suc k)) d.counters);
      }

-- ---- one order

-- what is done of a walk
abbrev Walks : Lent → Bool → List ℕ → Out → ℕ → List ℕ → List ℕ → Type 0
Walks x write room o g c2 room2 = Did x.plan x.parts write o room g c2 room2

known : (x : Lent) (s : ℕ) {m : ℕ} → m ≡ source_count x.plan → s < m → ltb s (source_count x.plan) ≡ true
known x s q f = lt-ltb s (source_count x.plan) (subst (λ z. s < z) q f)

module _ (x : Lent) {write : Bool} {room : List ℕ} (c : List ℕ) where
  pub walk_no_source : (s a e : ℕ) {m : ℕ} → m ≡ source_count x.plan → m ≤ s → Walks x write room (order_walk x (copy s a e) c) 1 c room
  unfolding order_walk
  walk_no_source s a e q f = need_no _ (le-ltb s (source_count x.plan) (subst (λ z. z ≤ s) q f))

  module _ (s a e : ℕ) {m : ℕ} (q : m ≡ source_count x.plan) (f : s < m) {first : ℕ} (k : first ≡ get_or x.sources (2 * s) 0) where
    pub walk_no_rows : (leb a e && leb e (get_or x.lengths (2 * first) 0)) ≡ false → Walks x write room (order_walk x (copy s a e) c) 2 c room
    unfolding order_walk
    walk_no_rows t = need_ok 1 c (known x s q f) (need_no _ (subst (λ z. (leb a e && leb e (get_or x.lengths (2 * z) 0)) ≡ false) k t))

    pub walk_copied : {g : ℕ} {c2 room2 : List ℕ} → (leb a e && leb e (get_or x.lengths (2 * first) 0)) ≡ true
        → Walks x write room (copy_walk (join x.plan x.parts x.lengths x.places x.body first s) 8 0 a (e - a) c) g c2 room2 → Walks x write room (order_walk x (copy s a e) c) g c2 room2
    unfolding order_walk
    walk_copied {g} {c2} {room2} t d =
        need_ok 1 c (known x s q f)
        (need_ok 2 c (subst (λ z. (leb a e && leb e (get_or x.lengths (2 * z) 0)) ≡ true) k t)
        (subst (λ z. Walks x write room (copy_walk (join x.plan x.parts x.lengths x.places x.body z s) 8 0 a (e - a) c) g c2 room2) k d))

  module _ (n : ℕ) {k : ℕ} (q : k ≡ keeps_of x.plan 0) where
    pub walk_no_nulls : k ≡ 0 → Walks x write room (order_walk x (nulls n) c) 3 c room
    unfolding order_walk
    walk_no_nulls z = need_no _ (ap not (eq-eqb (keeps_of x.plan 0) 0 (sym q ∙ z)))

    pub walk_nulled : {m g : ℕ} {c2 room2 : List ℕ} → (k ≡ 0 → ⊥) → m ≡ min n far → Walks x write room (null_walk (join x.plan x.parts [] [] [] 0 0) 8 0 m c) g c2 room2 → Walks x write room (order_walk x (nulls n) c) g c2 room2
    unfolding order_walk
    walk_nulled {m} {g} {c2} {room2} z e d =
        need_ok 3 c (ap not (ne_eqb (keeps_of x.plan 0) 0 (λ y. z (q ∙ y))))
        (subst (λ o. Walks x write room o g c2 room2)
        (ap (λ y. null_walk (join x.plan x.parts [] [] [] 0 0) 8 0 y c) e ∙ null_plan x.plan x.parts x.parts [] x.lengths [] x.places [] x.body 0 (get_or x.sources 0 0) 0 0 8 0 (min n far) c)
        d)

  -- by its kind
  pub call_nulls : (kind a b e : ℕ) {g : ℕ} {c2 room2 : List ℕ} → (kind ≡ 0 → ⊥) → Walks x write room (order_walk x (nulls a) c) g c2 room2 → Walks x write room (order_walk x (call_of kind a b e) c) g c2 room2
  call_nulls kind a b e h d = rw (ne_eqb kind 0 h) d

  pub call_copy : (kind a b e : ℕ) {s g : ℕ} {c2 room2 : List ℕ} → kind ≡ 0 → s ≡ min a 4294967295 → Walks x write room (order_walk x (copy s b e) c) g c2 room2 → Walks x write room (order_walk x (call_of kind a b e) c) g c2 room2
  call_copy kind a b e {g = g} {c2} {room2} h q d = rw (eq-eqb kind 0 h) (subst (λ z. Walks x write room (order_walk x (copy z b e) c) g c2 room2) q d)

  -- by its words
  pub call_words : (words : List ℕ) (k : ℕ) {k0 k1 k2 k3 : ℕ} {g : ℕ} {c2 room2 : List ℕ} → k0 ≡ get_or words (4 * k) 0 → k1 ≡ get_or words (4 * k + 1) 0 → k2 ≡ get_or words (4 * k + 2) 0 → k3 ≡ get_or words (4 * k + 3) 0
      → Walks x write room (order_walk x (call_of k0 k1 k2 k3) c) g c2 room2 → Walks x write room (order_walk x (call_at words k) c) g c2 room2
  call_words words k {g = g} {c2} {room2} e0 e1 e2 e3 d = subst (λ o. Walks x write room (order_walk x o c) g c2 room2) (ap₂ (λ f z. f z) (ap₂ (λ f z. f z) (ap₂ call_of e0 e1) e2) e3) d

  -- with the parts asked, or not
  module _ (o : Call) (ask within : Bool) {g : ℕ} {c1 room1 : List ℕ} (d : Walks x write room (order_walk x o c) g c1 room1) where
    pub step_refused : (g ≡ 0 → ⊥) → Walks x write room (order_step x ask within o c) g c1 room1
    unfolding order_step
    step_refused h = next_no _ d h

    pub step_unasked : g ≡ 0 → ask ≡ false → Walks x write room (order_step x ask within o c) 0 c1 room1
    unfolding order_step
    step_unasked h e = rw e (next_ok _ d h (done_did write c1 room1))

    pub step_asked : g ≡ 0 → ask ≡ true → {p : ℕ} → p ≡ cond within (cond (parts_hold x.plan c1 x.parts) 0 13) 14 → Walks x write room (order_step x ask within o c) p c1 room1
    unfolding order_step
    step_asked h e {p} q = rw e (next_ok _ d h (go within (parts_hold x.plan c1 x.parts) q))
      where
        go : (b t : Bool) → p ≡ cond b (cond t 0 13) 14 → Did x.plan x.parts write (need b 14 c1 (need t 13 c1 (done c1))) room1 p c1 room1
        go true true q = subst (λ z. Did x.plan x.parts write (need true 14 c1 (need true 13 c1 (done c1))) room1 z c1 room1) (sym q) (need_ok 14 c1 refl (need_ok 13 c1 refl (done_did write c1 room1)))
        go true false q = subst (λ z. Did x.plan x.parts write (need true 14 c1 (need false 13 c1 (done c1))) room1 z c1 room1) (sym q) (need_ok 14 c1 refl (need_no _ refl))
        go false t q = subst (λ z. Did x.plan x.parts write (need false 14 c1 (need t 13 c1 (done c1))) room1 z c1 room1) (sym q) (need_no _ refl)

-- ---- the words

some_order : (n : ℕ) → (n ≡ 0 → ⊥) → n ≡ suc (n - 1)
some_order n z = omega (arith, z)

module _ (words : List ℕ) where
  length_calls : (n k : ℕ) → length (calls_from words n k) ≡ n
  unfolding calls_from
  length_calls zero k = refl
  length_calls (suc n) k = omega (arith, length_calls n (suc k))

  module _ (x : Lent) (c r : List ℕ) where
    within_reach : {n : ℕ} → n ≤ 256 → n ≡ length words / 4 → trip_order x c r (calls_of words) ≡ carried x c r 0 c r (calls_from words n 0)
    unfolding trip_order
    within_reach {n} h e = subst (λ z. cond (leb (length (calls_from words z 0)) 256) (carried x c r 0 c r (calls_from words z 0)) (given_up x c r 9 0) ≡ carried x c r 0 c r (calls_from words n 0)) e
        (rw (length_calls n 0, le-leb n 256 h) refl)

    -- 9, place 0, before anything else
    pub too_many : (e : Ended) → 256 < length words / 4 → (e.refusal ≡ 9) × (e.place ≡ 0) → Ends (trip_order x c r (calls_of words)) e c r
    unfolding trip_order
    too_many e h q = rw (length_calls (length words / 4) 0, lt-leb (length words / 4) 256 h) (record { refusal = q.0; place = q.1; counters = refl; room = refl })

    -- an empty list is accepted, whatever is lent
    pub no_orders : (e : Ended) {n : ℕ} → n ≤ 256 → n ≡ length words / 4 → n ≡ 0 → (e.refusal ≡ 0) × (e.place ≡ 0) → Ends (trip_order x c r (calls_of words)) e c r
    unfolding carried calls_from
    no_orders e {n} h l z q = rw (within_reach h l, z) (record { refusal = q.0; place = q.1; counters = refl; room = refl })

    -- 14 at the first order, whatever it is
    first_foreign : (n : ℕ) → (n ≡ 0 → ⊥) → ((o : Call) → (ordered x c r o).refusal ≡ 14) → (e : Ended) → (e.refusal ≡ 14) × (e.place ≡ 0) → Ends (carried x c r 0 c r (calls_from words n 0)) e c r
    unfolding carried calls_from
    first_foreign n z f e q = rw (some_order n z, f (call_at words 0)) (record { refusal = q.0; place = q.1; counters = refl; room = refl })

    not_counters : (length c ≡ 96 → ⊥) → (o : Call) → (ordered x c r o).refusal ≡ 14
    unfolding copy_order null_order
    not_counters h (copy s a e) = rw (ne_eqb (length c) 96 h) refl
    not_counters h (nulls n) = rw (ne_eqb (length c) 96 h) refl

    not_walkable : length c ≡ 96 → walkable x.plan (length r) ≡ false → (o : Call) → (ordered x c r o).refusal ≡ 14
    unfolding copy_order null_order
    not_walkable h w (copy s a e) = rw (eq-eqb (length c) 96 h, w) refl
    not_walkable h w (nulls n) = rw (eq-eqb (length c) 96 h, w) refl

    module _ (e : Ended) {n : ℕ} (few : n ≤ 256) (l : n ≡ length words / 4) (some : n ≡ 0 → ⊥) (q : (e.refusal ≡ 14) × (e.place ≡ 0)) where
      pub foreign_counters : (length c ≡ 96 → ⊥) → Ends (trip_order x c r (calls_of words)) e c r
      foreign_counters h = rw (within_reach few l) (first_foreign n some (not_counters h) e q)

      pub foreign_plan : length c ≡ 96 → walkable x.plan (length r) ≡ false → Ends (trip_order x c r (calls_of words)) e c r
      foreign_plan h w = rw (within_reach few l) (first_foreign n some (not_walkable h w) e q)

    -- the list tried, from counters that answer alike
    module _ {n : ℕ} (few : n ≤ 256) (l : n ≡ length words / 4) (h : length c ≡ 96) (w : walkable x.plan (length r) ≡ true) {within : Bool} (q : within ≡ parts_within x.plan x.parts (length r))
        {d none d2 none2 : List ℕ} (near : Alike d c) (e : Ended) (s : Stepped x.plan x.parts false (step_at x true within words) n 0 d none e.refusal e.place d2 none2) where
      abbrev all : AfterTrip
      all = carried x c r 0 c r (calls_from words n 0)

      same_answer : (e.refusal ≡ all.refusal) × (e.place ≡ all.place)
      same_answer =
          let t = subst (λ z. Tried x words c r z n 0 d all) (sym q) (tried x words c r (length r) w n 0 c r d near h refl) in
          (s.did.answer ∙ t.tried_ground, s.place ∙ t.tried_place)

      -- refused
      pub given_up_lem : (e.refusal ≡ 0 → ⊥) → Ends (trip_order x c r (calls_of words)) e c r
      given_up_lem f =
          let k = carried_keeps x words c r (calls_from words n 0) 0 c r (λ z. f (same_answer.0 ∙ z)) in
          rw (within_reach few l) (record { refusal = same_answer.0; place = same_answer.1; counters = sym k.0; room = sym k.1 })

      -- and written
      pub carried_out_lem : e.refusal ≡ 0 → (e2 : Ended) (b : Bool) {c1 c2 c3 room2 : List ℕ} → c1 ≡ c → Stepped x.plan x.parts true (step_at x false b words) n 0 c1 r e2.refusal e2.place c2 room2 → c3 ≡ c2
          → Ends (trip_order x c r (calls_of words)) e2 c3 room2
      unfolding apply_if
      carried_out_lem z e2 b {c2 = c2} {room2 = room2} y s2 v =
          let u = written x words c r b n 0 c r (sym same_answer.0 ∙ z) in
          let t = subst (λ a. Stepped x.plan x.parts true (step_at x false b words) n 0 a r e2.refusal e2.place c2 room2) y s2 in
          rw (within_reach few l)
          (record { refusal = t.did.answer ∙ u.ground_is; place = t.place ∙ u.place_is; counters = v ∙ t.did.counters ∙ u.counters_are; room = t.did.bytes ∙ u.room_is })

  -- ---- measured

  module _ (x : Lent) (c : List ℕ) where
    measured_reach : {n : ℕ} → n ≤ 256 → n ≡ length words / 4 → trip_measure x c (calls_of words) ≡ measured_trip x c 0 c (calls_from words n 0)
    unfolding trip_measure
    measured_reach {n} h e = subst (λ z. cond (leb (length (calls_from words z 0)) 256) (measured_trip x c 0 c (calls_from words z 0)) (unasked x c 9 0) ≡ measured_trip x c 0 c (calls_from words n 0)) e
        (rw (length_calls n 0, le-leb n 256 h) refl)

    pub measures_too_many : (e : Ended) → 256 < length words / 4 → (e.refusal ≡ 9) × (e.place ≡ 0) → Asks (trip_measure x c (calls_of words)) e c
    unfolding trip_measure
    measures_too_many e h q = rw (length_calls (length words / 4) 0, lt-leb (length words / 4) 256 h) (record { refusal = q.0; place = q.1; counters = refl })

    pub measures_none : (e : Ended) {n : ℕ} → n ≤ 256 → n ≡ length words / 4 → n ≡ 0 → (e.refusal ≡ 0) × (e.place ≡ 0) → Asks (trip_measure x c (calls_of words)) e c
    unfolding measured_trip calls_from
    measures_none e {n} h l z q = rw (measured_reach h l, z) (record { refusal = q.0; place = q.1; counters = refl })

    measured_foreign : (n : ℕ) → (n ≡ 0 → ⊥) → ((o : Call) → (order_measure x c o).refusal ≡ 14) → (e : Ended) → (e.refusal ≡ 14) × (e.place ≡ 0) → Asks (measured_trip x c 0 c (calls_from words n 0)) e c
    unfolding measured_trip calls_from
    measured_foreign n z f e q = rw (some_order n z, f (call_at words 0)) (record { refusal = q.0; place = q.1; counters = refl })

    measures_not_counters : (length c ≡ 96 → ⊥) → (o : Call) → (order_measure x c o).refusal ≡ 14
    unfolding copy_measure null_measure
    measures_not_counters h (copy s a e) = rw (ne_eqb (length c) 96 h) refl
    measures_not_counters h (nulls n) = rw (ne_eqb (length c) 96 h) refl

    measures_not_plan : length c ≡ 96 → plan_sound x.plan ≡ false → (o : Call) → (order_measure x c o).refusal ≡ 14
    unfolding copy_measure null_measure
    measures_not_plan h w (copy s a e) = rw (eq-eqb (length c) 96 h, w) refl
    measures_not_plan h w (nulls n) = rw (eq-eqb (length c) 96 h, w) refl

    module _ (e : Ended) {n : ℕ} (few : n ≤ 256) (l : n ≡ length words / 4) (some : n ≡ 0 → ⊥) (q : (e.refusal ≡ 14) × (e.place ≡ 0)) where
      pub measures_counters : (length c ≡ 96 → ⊥) → Asks (trip_measure x c (calls_of words)) e c
      measures_counters h = rw (measured_reach few l) (measured_foreign n some (measures_not_counters h) e q)

      pub measures_plan : length c ≡ 96 → plan_sound x.plan ≡ false → Asks (trip_measure x c (calls_of words)) e c
      measures_plan h w = rw (measured_reach few l) (measured_foreign n some (measures_not_plan h w) e q)

    module _ {n : ℕ} (few : n ≤ 256) (l : n ≡ length words / 4) (h : length c ≡ 96) (w : plan_sound x.plan ≡ true) {c1 none c2 none2 : List ℕ} (y : c1 ≡ c) (e : Ended)
        (s : Stepped x.plan x.parts false (step_at x false false words) n 0 c1 none e.refusal e.place c2 none2) where
      abbrev asked : AskedTrip
      asked = measured_trip x c 0 c (calls_from words n 0)

      steps : Stepped x.plan x.parts false (step_at x false false words) n 0 c none e.refusal e.place c2 none2
      steps = subst (λ a. Stepped x.plan x.parts false (step_at x false false words) n 0 a none e.refusal e.place c2 none2) y s

      pub measures_refused : (e.refusal ≡ 0 → ⊥) → Asks (trip_measure x c (calls_of words)) e c
      measures_refused f =
          let u = measured_list x words c w n 0 c h in
          let g = steps.did.answer ∙ u.ground_is in
          rw (measured_reach few l) (record { refusal = g; place = steps.place ∙ u.place_is; counters = sym (u.counters_stay (λ z. f (g ∙ z))) })

      pub measures_made : e.refusal ≡ 0 → {c3 : List ℕ} → c3 ≡ c2 → Asks (trip_measure x c (calls_of words)) e c3
      measures_made z v =
          let u = measured_list x words c w n 0 c h in
          let g = steps.did.answer ∙ u.ground_is in
          rw (measured_reach few l) (record { refusal = g; place = steps.place ∙ u.place_is; counters = v ∙ steps.did.counters ∙ u.counters_are (sym g ∙ z) })
