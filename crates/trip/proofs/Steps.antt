-- A list of orders that is tried, written or measured step by step comes to what its single orders come to. Assumes nothing.
use mathlib.Core.Path.{◌≡◌, refl, sym, ap, subst, ◌∙◌}
use mathlib.Core.Bool.{Bool, true, false, not, cond, ◌&&◌}
use mathlib.Core.List.{List, [], ◌∷◌, ◌++◌, append-nil}
use Prim.Native.Nat.{ℕ, zero, suc, ◌-◌, ◌≤◌, ◌/◌, min}
use native.Mathlib.Omega.{arith}
use lib.ListN.{length}
use lib.Dec.{leb, ltb, eqb}
use borrow.Author.Tests.{eq-eqb, ne_eqb, eqb-true, eqb-false, le-leb}
use Rattle.model.specs.Book.{Call, copy, nulls}
use Rattle.walk.specs.State.{keeps_of, far}
use Rattle.walk.specs.Log.{Out, apply, fail, done, need, next, each}
use Rattle.walk.specs.Copy.{copy_walk}
use Rattle.walk.specs.Nulls.{null_walk}
use Rattle.walk.proofs.Laws.{apply_append}
use Rattle.plan.specs.parts.Parts.{parts_within, parts_hold}
use Rattle.refinement.specs.orders.Sound.{plan_sound, walkable}
use Rattle.columns.specs.Grounds.{ceiling}
use Rattle.refinement.specs.orders.Order.{After, Lent, join_of, source_count, source_length, refused, settled, copy_order, null_order, ordered}
use Rattle.refinement.specs.orders.Measure.{Measured, measured, copy_measure, null_measure}
use Rattle.refinement.proofs.orders.Accepted.{Walked, walked}
use Rattle.sound.specs.trying.Alike.{Alike}
use Rattle.sound.proofs.trying.Laws.{alike_to}
use Rattle.trip.specs.Trip.{call_at, calls_from, AfterTrip, given_up, carried, order_measure, AskedTrip, unasked, measured_trip}
use Rattle.trip.specs.Walk.{order_walk, order_step, step_at, stops_at}
use Rattle.trip.proofs.NearNulls.{near_step}
use Rattle.trip.proofs.Long.{long_done, long_next, long_order, apply_long}

-- ---- an order is its walk, settled or measured

module _ (x : Lent) (c r : List ℕ) (h : length c ≡ 96) where
  pub ordered_is : walkable x.plan (length r) ≡ true → (o : Call) → ordered x c r o ≡ settled x c r (order_walk x o c)
  unfolding copy_order null_order order_walk need fail settled
  ordered_is w (copy s a e) = rw (eq-eqb (length c) 96 h, w) (go (ltb s (source_count x.plan)) (leb a e && leb e (source_length x s)))
    where
      go : (p q : Bool) → cond p (cond q (settled x c r (copy_walk (join_of x s) 8 0 a (e - a) c)) (refused x c r 2)) (refused x c r 1)
          ≡ settled x c r (cond p (cond q (copy_walk (join_of x s) 8 0 a (e - a) c) (fail 2 c)) (fail 1 c))
      go true true = refl
      go true false = refl
      go false q = refl
  ordered_is w (nulls n) = rw (eq-eqb (length c) 96 h, w) (go (eqb (keeps_of x.plan 0) 0))
    where
      go : (p : Bool) → cond p (refused x c r 3) (settled x c r (null_walk (join_of x 0) 8 0 (min n far) c))
          ≡ settled x c r (cond (not p) (null_walk (join_of x 0) 8 0 (min n far) c) (fail 3 c))
      go true = refl
      go false = refl

  pub measure_is : plan_sound x.plan ≡ true → (o : Call) → order_measure x c o ≡ measured c (order_walk x o c)
  unfolding copy_measure null_measure order_walk need fail measured
  measure_is w (copy s a e) = rw (eq-eqb (length c) 96 h, w) (go (ltb s (source_count x.plan)) (leb a e && leb e (source_length x s)))
    where
      go : (p q : Bool) → cond p (cond q (measured c (copy_walk (join_of x s) 8 0 a (e - a) c)) (record { refusal = 2; counters = c })) (record { refusal = 1; counters = c })
          ≡ measured c (cond p (cond q (copy_walk (join_of x s) 8 0 a (e - a) c) (fail 2 c)) (fail 1 c))
      go true true = refl
      go true false = refl
      go false q = refl
  measure_is w (nulls n) = rw (eq-eqb (length c) 96 h, w) (go (eqb (keeps_of x.plan 0) 0))
    where
      go : (p : Bool) → cond p (record { refusal = 3; counters = c }) (measured c (null_walk (join_of x 0) 8 0 (min n far) c))
          ≡ measured c (cond (not p) (null_walk (join_of x 0) 8 0 (min n far) c) (fail 3 c))
      go true = refl
      go false = refl

-- ---- one step

module _ (x : Lent) (c r : List ℕ) (w : Out) where
  abbrev asks : Bool → Out
  asks within = next w (λ c2. need within 14 c2 (need (parts_hold x.plan c2 x.parts) 13 c2 (done c2)))

  abbrev answers : Bool → Bool → Bool → After
  answers a b d =
      cond a
      (cond b (cond d (record { refusal = 0; counters = w.counters; room = apply x.plan x.parts w.log r }) (refused x c r 13)) (refused x c r 14))
      (refused x c r w.ans)

  -- tried: the ground of the order, and where it is accepted, its counters
  record Step (o : Out) (a : After) : Type 0 where
    answer : o.ans ≡ a.refusal
    left : a.refusal ≡ 0 → o.counters ≡ a.counters

  settled_step : Step (asks (parts_within x.plan x.parts (length r))) (settled x c r w)
  unfolding settled next need done fail
  settled_step = go (eqb w.ans 0) refl (parts_within x.plan x.parts (length r)) (parts_hold x.plan w.counters x.parts) refl
    where
      go : (a : Bool) → eqb w.ans 0 ≡ a → (b d : Bool) → parts_hold x.plan w.counters x.parts ≡ d → Step (asks b) (answers a b d)
      go true e true true f = rw (e, f) (record { answer = refl; left = λ z. refl })
      go true e true false f = rw (e, f) (record { answer = refl; left = λ z. absurd (omega (arith, z)) })
      go true e false d f = rw e (record { answer = refl; left = λ z. absurd (omega (arith, z)) })
      go false e b d f = rw e (record { answer = refl; left = λ z. absurd (eqb-false _ _ e z) })

  -- written: what an accepted order leaves
  record Made (o : Out) (a : After) : Type 0 where
    no_ground : o.ans ≡ 0
    counters_left : a.counters ≡ o.counters
    room_left : a.room ≡ apply x.plan x.parts o.log r

  settled_made : (settled x c r w).refusal ≡ 0 → Made (next w (λ c2. done c2)) (settled x c r w)
  unfolding settled next done
  settled_made = go (eqb w.ans 0) refl (parts_within x.plan x.parts (length r)) (parts_hold x.plan w.counters x.parts)
    where
      logged : apply x.plan x.parts w.log r ≡ apply x.plan x.parts (w.log ++ []) r
      logged = ap (λ l. apply x.plan x.parts l r) (sym (append-nil w.log))

      go : (a : Bool) → eqb w.ans 0 ≡ a → (b d : Bool) → (answers a b d).refusal ≡ 0 → Made (next w (λ c2. done c2)) (answers a b d)
      go true e true true z = rw e (record { no_ground = refl; counters_left = refl; room_left = logged })
      go true e true false z = absurd (omega (arith, z))
      go true e false d z = absurd (omega (arith, z))
      go false e b d z = absurd (eqb-false _ _ e z)

  -- as many counters and bytes as before
  settled_long : length c ≡ 96 → length w.counters ≡ 96 → length (settled x c r w).counters ≡ 96
  unfolding settled
  settled_long h l = go (eqb w.ans 0) (parts_within x.plan x.parts (length r)) (parts_hold x.plan w.counters x.parts)
    where
      go : (a b d : Bool) → length (answers a b d).counters ≡ 96
      go true true true = l
      go true true false = h
      go true false d = h
      go false b d = h

  settled_room : length (settled x c r w).room ≡ length r
  unfolding settled
  settled_room = go (eqb w.ans 0) (parts_within x.plan x.parts (length r)) (parts_hold x.plan w.counters x.parts)
    where
      go : (a b d : Bool) → length (answers a b d).room ≡ length r
      go true true true = apply_long x.plan x.parts w.log r
      go true true false = refl
      go true false d = refl
      go false b d = refl

  -- measured: without parts
  record Asks (o : Out) (a : Measured) : Type 0 where
    answer : o.ans ≡ a.refusal
    left : a.refusal ≡ 0 → o.counters ≡ a.counters

  measured_step : Asks (next w (λ c2. done c2)) (measured c w)
  unfolding measured next done
  measured_step = go (eqb w.ans 0) refl
    where
      go : (a : Bool) → eqb w.ans 0 ≡ a → Asks (next w (λ c2. done c2)) (cond a (record { refusal = 0; counters = w.counters }) (record { refusal = w.ans; counters = c }))
      go true e = rw e (record { answer = refl; left = λ z. refl })
      go false e = rw e (record { answer = refl; left = λ z. absurd (eqb-false _ _ e z) })

walked_in : (x : Lent) (c r : List ℕ) → Walked x c r → walkable x.plan (length r) ≡ true
unfolding walkable
walked_in x c r v = rw (le-leb (length r) ceiling (omega (arith, v.small)), v.sound) refl

-- ---- a list

module _ (x : Lent) (words c0 r0 : List ℕ) where
  abbrev goes : ℕ → ℕ → List ℕ → List ℕ → AfterTrip
  goes n k c r = carried x c0 r0 k c r (calls_from words n k)

  -- REFUSED, IT CHANGES NOTHING
  pub carried_keeps : (os : List Call) (k : ℕ) (c r : List ℕ) → ((carried x c0 r0 k c r os).refusal ≡ 0 → ⊥)
      → ((carried x c0 r0 k c r os).counters ≡ c0) × ((carried x c0 r0 k c r os).room ≡ r0)
  unfolding carried
  carried_keeps [] k c r h = absurd (h refl)
  carried_keeps (o ∷ os) k c r h = go (eqb (ordered x c r o).refusal 0) (carried_keeps os (suc k) (ordered x c r o).counters (ordered x c r o).room) h
    where
      rest : AfterTrip
      rest = carried x c0 r0 (suc k) (ordered x c r o).counters (ordered x c r o).room os

      whole : Bool → AfterTrip
      whole b = cond b rest (given_up x c0 r0 (ordered x c r o).refusal k)

      go : (b : Bool) → ((rest.refusal ≡ 0 → ⊥) → (rest.counters ≡ c0) × (rest.room ≡ r0)) → ((whole b).refusal ≡ 0 → ⊥) → ((whole b).counters ≡ c0) × ((whole b).room ≡ r0)
      go true f h = f h
      go false f h = (refl, refl)

  -- TRIED: the ground and the place are those of the list
  pub record Tried (within : Bool) (n k : ℕ) (d : List ℕ) (a : AfterTrip) : Type 0 where
    pub tried_ground : (each (step_at x true within words) n k d).ans ≡ a.refusal
    pub tried_place : stops_at (step_at x true within words) n k d ≡ a.place

  module _ (m : ℕ) (w : walkable x.plan m ≡ true) where
    abbrev within : Bool
    within = parts_within x.plan x.parts m

    record Next (o : Call) (d : List ℕ) (a : After) : Type 0 where
      answer : (order_step x true within o d).ans ≡ a.refusal
      alike : a.refusal ≡ 0 → Alike (order_step x true within o d).counters a.counters
      long : length a.counters ≡ 96
      as_long : length a.room ≡ m

    next_order : (o : Call) (c r d : List ℕ) → Alike d c → length c ≡ 96 → length r ≡ m → Next o d (ordered x c r o)
    unfolding order_step
    next_order o c r d near h l =
        let e = ordered_is x c r h (subst (λ z. walkable x.plan z ≡ true) (sym l) w) o in
        let s = settled_step x c r (order_walk x o c) in
        let n = near_step x true within o near in
        let q : order_step x true within o c ≡ asks x c r (order_walk x o c) (parts_within x.plan x.parts (length r)) = ap (λ z. asks x c r (order_walk x o c) (parts_within x.plan x.parts z)) (sym l) in
        record {
          answer = n.answer ∙ ap (λ z. z.ans) q ∙ s.answer ∙ ap (λ z. z.refusal) (sym e);
          alike = λ z. alike_to n.counters (ap (λ z. z.counters) q ∙ s.left (sym (ap (λ z. z.refusal) e) ∙ z) ∙ ap (λ z. z.counters) (sym e));
          long = ap (λ z. length z.counters) e ∙ settled_long x c r (order_walk x o c) h (long_order x o (record { size = h })).left.size;
          as_long = ap (λ z. length z.room) e ∙ settled_room x c r (order_walk x o c) ∙ l;
        }

    pub tried : (n k : ℕ) (c r d : List ℕ) → Alike d c → length c ≡ 96 → length r ≡ m → Tried within n k d (goes n k c r)
    unfolding each stops_at calls_from carried next done
    tried zero k c r d near h l = record { tried_ground = refl; tried_place = refl }
    tried (suc n) k c r d near h l =
        let s = next_order (call_at words k) c r d near h l in
        go (ordered x c r (call_at words k)) s (eqb (ordered x c r (call_at words k)).refusal 0) refl
        (λ q. tried n (suc k) (ordered x c r (call_at words k)).counters (ordered x c r (call_at words k)).room (order_step x true within (call_at words k) d).counters (s.alike q) s.long s.as_long)
      where
        go : (a : After) → Next (call_at words k) d a → (b : Bool) → eqb a.refusal 0 ≡ b
            → (a.refusal ≡ 0 → Tried within n (suc k) (order_step x true within (call_at words k) d).counters (goes n (suc k) a.counters a.room))
            → Tried within (suc n) k d (cond b (goes n (suc k) a.counters a.room) (given_up x c0 r0 a.refusal k))
        go a s true e f =
            let t = f (eqb-true _ _ e) in
            let z : eqb (order_step x true within (call_at words k) d).ans 0 ≡ true = rw s.answer e in
            record { tried_ground = rw z t.tried_ground; tried_place = rw z t.tried_place }
        go a s false e f =
            let z : eqb (order_step x true within (call_at words k) d).ans 0 ≡ false = rw s.answer e in
            record { tried_ground = rw z s.answer; tried_place = rw z refl }

  -- WRITTEN, where the list is accepted: its counters, and the room with its log
  pub record Written (o : Out) (stop : ℕ) (r : List ℕ) (a : AfterTrip) : Type 0 where
    pub ground_is : o.ans ≡ a.refusal
    pub place_is : stop ≡ a.place
    pub counters_are : o.counters ≡ a.counters
    pub room_is : apply x.plan x.parts o.log r ≡ a.room

  pub written : (within : Bool) (n k : ℕ) (c r : List ℕ) → (goes n k c r).refusal ≡ 0
      → Written (each (step_at x false within words) n k c) (stops_at (step_at x false within words) n k c) r (goes n k c r)
  unfolding each stops_at calls_from carried done apply order_step next
  written within zero k c r h = record { ground_is = refl; place_is = refl; counters_are = refl; room_is = refl }
  written within (suc n) k c r h = go (eqb (ordered x c r (call_at words k)).refusal 0) refl h (written within n (suc k) (ordered x c r (call_at words k)).counters (ordered x c r (call_at words k)).room)
    where
      a : After
      a = ordered x c r (call_at words k)

      step : Out
      step = order_step x false within (call_at words k) c

      made_step : a.refusal ≡ 0 → Made x c r (order_walk x (call_at words k) c) step a
      made_step z =
          let v = walked x c r (call_at words k) z in
          let e = ordered_is x c r v.long (walked_in x c r v) (call_at words k) in
          subst (Made x c r (order_walk x (call_at words k) c) step) (sym e) (settled_made x c r (order_walk x (call_at words k) c) (sym (ap (λ y. y.refusal) e) ∙ z))

      go : (b : Bool) → eqb a.refusal 0 ≡ b → (cond b (goes n (suc k) a.counters a.room) (given_up x c0 r0 a.refusal k)).refusal ≡ 0
          → ((goes n (suc k) a.counters a.room).refusal ≡ 0
          → Written (each (step_at x false within words) n (suc k) a.counters) (stops_at (step_at x false within words) n (suc k) a.counters) a.room (goes n (suc k) a.counters a.room))
          → Written (next step (λ c2. each (step_at x false within words) n (suc k) c2)) (cond (eqb step.ans 0) (stops_at (step_at x false within words) n (suc k) step.counters) k) r
          (cond b (goes n (suc k) a.counters a.room) (given_up x c0 r0 a.refusal k))
      go true e z f =
          let s = made_step (eqb-true _ _ e) in
          let t = subst (λ y. Written (each (step_at x false within words) n (suc k) y) (stops_at (step_at x false within words) n (suc k) y) a.room (goes n (suc k) a.counters a.room)) s.counters_left (f z) in
          rw (eq-eqb step.ans 0 s.no_ground)
          (record {
            ground_is = t.ground_is;
            place_is = t.place_is;
            counters_are = t.counters_are;
            room_is = apply_append x.plan x.parts step.log (each (step_at x false within words) n (suc k) step.counters).log r
                ∙ ap (apply x.plan x.parts (each (step_at x false within words) n (suc k) step.counters).log) (sym s.room_left)
                ∙ t.room_is;
          })
      go false e z f = absurd (eqb-false _ _ e z)

-- ---- a list that is measured

module _ (x : Lent) (words c0 : List ℕ) (w : plan_sound x.plan ≡ true) where
  abbrev measures : ℕ → ℕ → List ℕ → AskedTrip
  measures n k c = measured_trip x c0 k c (calls_from words n k)

  -- MEASURED: the counters stay where it is refused
  pub record MeasuredIs (o : Out) (stop : ℕ) (a : AskedTrip) : Type 0 where
    pub ground_is : o.ans ≡ a.refusal
    pub place_is : stop ≡ a.place
    pub counters_are : a.refusal ≡ 0 → o.counters ≡ a.counters
    pub counters_stay : (a.refusal ≡ 0 → ⊥) → a.counters ≡ c0

  pub measured_list : (n k : ℕ) (c : List ℕ) → length c ≡ 96 → MeasuredIs (each (step_at x false false words) n k c) (stops_at (step_at x false false words) n k c) (measures n k c)
  unfolding each stops_at calls_from measured_trip done order_step next
  measured_list zero k c h = record { ground_is = refl; place_is = refl; counters_are = λ z. refl; counters_stay = λ z. absurd (z refl) }
  measured_list (suc n) k c h = go (eqb (order_measure x c (call_at words k)).refusal 0) refl (λ y l. measured_list n (suc k) y l)
    where
      a : Measured
      a = order_measure x c (call_at words k)

      step : Out
      step = order_step x false false (call_at words k) c

      asks_step : Asks x c c (order_walk x (call_at words k) c) step a
      asks_step = subst (Asks x c c (order_walk x (call_at words k) c) step) (sym (measure_is x c c h w (call_at words k))) (measured_step x c c (order_walk x (call_at words k) c))

      step_long : length step.counters ≡ 96
      step_long = (long_next (λ c2. done c2) (long_order x (call_at words k) (record { size = h })) (λ c2 l. long_done l)).left.size

      go : (b : Bool) → eqb a.refusal 0 ≡ b
          → ((y : List ℕ) → length y ≡ 96 → MeasuredIs (each (step_at x false false words) n (suc k) y) (stops_at (step_at x false false words) n (suc k) y) (measures n (suc k) y))
          → MeasuredIs (next step (λ c2. each (step_at x false false words) n (suc k) c2)) (cond (eqb step.ans 0) (stops_at (step_at x false false words) n (suc k) step.counters) k)
          (cond b (measures n (suc k) a.counters) (unasked x c0 a.refusal k))
      go true e f =
          let s = asks_step in
          let z = eqb-true _ _ e in
          let t = subst (λ y. MeasuredIs (each (step_at x false false words) n (suc k) step.counters) (stops_at (step_at x false false words) n (suc k) step.counters) (measures n (suc k) y)) (s.left z) (f step.counters step_long) in
          rw (eq-eqb step.ans 0 (s.answer ∙ z)) (record { ground_is = t.ground_is; place_is = t.place_is; counters_are = t.counters_are; counters_stay = t.counters_stay })
      go false e f =
          let s = asks_step in
          rw (ne_eqb step.ans 0 (λ z. eqb-false _ _ e (sym s.answer ∙ z)))
          (record { ground_is = s.answer; place_is = refl; counters_are = λ z. absurd (eqb-false _ _ e z); counters_stay = λ z. refl })
