-- Every answer, the rows and the running null count of any list of calls, by lengths alone. Assumes nothing.
use mathlib.Core.Path.{◌≡◌, refl, sym, ap, subst, ◌∙◌}
use mathlib.Core.Bool.{Bool, true, false, cond, ◌&&◌, false≢true}
use mathlib.Core.List.{List, [], ◌∷◌, ◌++◌}
use Prim.Native.Nat.{ℕ, zero, suc, ◌+◌, ◌-◌, ◌≤◌, ◌<◌}
use native.Mathlib.Decide.{dec_lt}
use native.Mathlib.Omega.{arith}
use lib.ListN.{length}
use lib.Dec.{leb, ltb, eqb}
use borrow.Author.Tests.{leb-true, ltb-true, eq-eqb, ne_eqb}
use Rattle.array_data.proofs.lent_tables.Laws.{and_left, and_right}
use Rattle.columnar.specs.Row.{Row}
use Rattle.columnar.specs.Types.{Ty}
use Rattle.columnar.specs.Reading.{Column, masks}
use Rattle.model.specs.Try.{Try, done, stop, then, guard, map_try, after}
use Rattle.model.specs.Grounds.{Counts, rows_of}
use Rattle.model.specs.Mutable.{nulls_node}
use Rattle.model.specs.Transform.{Grown, Destination, extend}
use Rattle.model.specs.Book.{Call, copy, nulls, answer, entered, nulls_entered}
use Rattle.model.specs.Orders.{perform}
use Rattle.model.specs.Held.{held}
use Rattle.model.proofs.Agree.{Agrees, both, neither}
use Rattle.model.proofs.Book.{Did, counted_if, one_order}
use Rattle.walk.specs.State.{far}
use Rattle.walk.specs.Log.{Out}
use Rattle.refinement.specs.walk_is_model.Memory.{Memory}
use Rattle.refinement.specs.walk_is_model.Holds.{Holds}
use Rattle.refinement.proofs.walk_is_model.Goes.{Goes, good, over}
use Rattle.refinement.proofs.walk_is_model.Types.{copies}
use Rattle.refinement.proofs.walk_is_model.UnionFields.{agrees_value}
use Rattle.refinement.specs.orders.Order.{After, Lent, join_of, ordered, grounds_of}
use Rattle.refinement.specs.orders.Fits.{buffers_of, fits_all, fits, answer_in, answers_in, book_in}
use Rattle.refinement.specs.orders.Counted.{sizes_of, room_all, room_bits, room_below, room_for, answer_room, counts_after, book_room, book_by, nulls_room}
use Rattle.refinement.proofs.orders.Counted.{own_counted, fits_counted}
use Rattle.refinement.proofs.orders.Short.{short_own, own_in}
use Rattle.refinement.proofs.orders.Step.{Joined, Running, Answers, made, not_made, order_step_lem, first_opened, lawful, obeys, nulls_len, nulls_did, nulls_go, small_room}
use Rattle.model.proofs.Names.{keeps_nulls, nulls_data}

-- the number of a refusal, 0 where there is none
abbrev pub ground_of : {A : Type 0} → Try A → ℕ
ground_of (done x) = 0
ground_of (stop g) = g

-- counters and a memory that hold a destination
pub record Held (plan : List ℕ) (t : Ty) (d : Destination t) : Type 0 where
  pub counters : List ℕ
  pub memory : Memory
  pub holds : Holds plan t 0 d counters memory

-- a walk that the model carries out
goes_held : {t : Ty} {μ : Memory} {plan : List ℕ} {R : Destination t → List ℕ → Memory → Type 0} {p : Try (Destination t)} {w : Out}
    → Goes μ (λ d c ν. Holds plan t 0 d c ν × R d c ν) p w → (d : Destination t) → p ≡ done d → Held plan t d
goes_held {t} {plan = plan} (good y w e l q) d h = let z : y ≡ d = cc h in subst (Held plan t) z (record { counters = _; memory = _; holds = q.0 })
goes_held (over g w e l) d h = absurd (let z : ◌≡◌ {A = ℕ} 0 1 = cc h in omega arith)

guard_done : {A : Type 0} (b : Bool) (g : ℕ) (p : Try A) (y : A) → guard b g p ≡ done y → (b ≡ true) × (p ≡ done y)
guard_done true g p y h = (refl, h)
guard_done false g p y h = absurd (let z : ◌≡◌ {A = ℕ} 0 1 = cc h in omega arith)

module _ (x : Lent) (t : Ty) (m : ℕ) (ss : ℕ → Column t) (join : Joined x t m ss) (keep : Bool) (c0 : List ℕ) (μ0 : Memory) where
  abbrev Runs : Destination t → List ℕ → List ℕ → Type 0
  Runs = Running x t m ss join keep c0 μ0

  -- ground 13 of a destination is that of its counts
  abbrev Same : Destination t → Type 0
  Same d' = fits x.plan x.parts t 0 d' ≡ room_for x.plan x.parts t 0 (held t d')

  abbrev plan : List ℕ
  plan = x.plan

  abbrev parts : List ℕ
  parts = x.parts

  module _ (d : Destination t) (counters room : List ℕ) (run : Runs d counters room) where
    did_by : (o : Call) (d' : Destination t) → perform t m ss o d ≡ done d' → Did t m ss (lawful x t m ss join) (obeys x t m ss join) keep o d d'
    did_by o d' h = agrees_value (one_order t m ss (lawful x t m ss join) (obeys x t m ss join) keep o d run.state) d' h

    same_by : (o : Call) (d' : Destination t) → perform t m ss o d ≡ done d' → Held plan t d' → Same d'
    same_by o d' h k = fits_counted plan parts k.counters k.memory m t 0 ss d' (did_by o d' h).state.fine k.holds

    copy_same : (s a e : ℕ) (d' : Destination t) → perform t m ss (copy s a e) d ≡ done d' → Same d'
    copy_same s a e d' h =
        let p = guard_done (ltb s m) 1 (guard (leb a e && leb e (ss s).len) 2 (extend t m ss s a (e - a) d)) d' h in
        let q = guard_done (leb a e && leb e (ss s).len) 2 (extend t m ss s a (e - a) d) d' p.1 in
        let u = join.opened s (ltb-true s m p.0) in
        let le : a ≤ e = leb-true a e (and_left (leb a e) (leb e (ss s).len) q.0) in
        let lt : e ≤ (ss s).len = leb-true e (ss s).len (and_right (leb a e) (leb e (ss s).len) q.0) in
        same_by (copy s a e) d' h
        (goes_held (copies (join_of x s) m 8 t 0 ss u a (e - a) d counters run.memory (omega arith) run.state.fine (omega (arith, run.short_of, u.lent.sum)) run.long run.holds) d' q.1)

    -- as many nulls as no part holds
    far_same : (k : ℕ) (keeps : keeps_nulls d ≡ true) (d' : Destination t) → far ≤ suc k → nulls_node (masks t) (nulls_data t) (suc k) d ≡ done d' → Same d'
    far_same k keeps d' l h =
        let did = nulls_did x t m ss join keep c0 μ0 0 d counters room run keeps (suc k) d' h in
        let own : fits_all plan parts 0 0 (buffers_of t d'.«data») ≡ room_all plan parts 0 0 (sizes_of t (held t d')) = own_counted plan parts [] run.memory t 0 m (λ j. (ss j).body) _ d'.«data» d'.len did.state.fine.data_fine in
        let low = nulls_len x t m ss join keep c0 μ0 k d d' h in
        let not_own : fits_all plan parts 0 0 (buffers_of t d'.«data») ≡ true → ⊥ = λ e.
        let s = short_own plan parts m 8 t ss d' (first_opened x t m ss join).worded (first_opened x t m ss join).formed did.state.fine e (small_room x t m ss join keep c0 μ0 0 d counters room run keeps) in
        omega (arith, low) in
        go (fits plan parts t 0 d') refl (room_for plan parts t 0 (held t d')) refl (λ e. not_own (own_in plan parts m t 0 d' e)) (λ e. not_own (own ∙ room_in t 0 (held t d') e))
      where
        room_in : (u : Ty) (i : ℕ) (c : Counts) → room_for plan parts u i c ≡ true → room_all plan parts i 0 (sizes_of u c) ≡ true
        room_in u i c e =
            and_right (room_bits plan parts i (masks u) (rows_of c)) (room_all plan parts i 0 (sizes_of u c))
            (and_left (room_bits plan parts i (masks u) (rows_of c) && room_all plan parts i 0 (sizes_of u c)) (room_below plan parts u i c) e)

        go : (a : Bool) → fits plan parts t 0 d' ≡ a → (b : Bool) → room_for plan parts t 0 (held t d') ≡ b
            → (fits plan parts t 0 d' ≡ true → ⊥) → (room_for plan parts t 0 (held t d') ≡ true → ⊥) → Same d'
        go true e b f p q = absurd (p e)
        go false e true f p q = absurd (q f)
        go false e false f p q = e ∙ sym f

    nulls_same : (n : ℕ) (d' : Destination t) → perform t m ss (nulls n) d ≡ done d' → Same d'
    nulls_same n d' h =
        let p = guard_done (keeps_nulls d) 3 (nulls_node (masks t) (nulls_data t) n d) d' h in
        go (dec_lt far n) p.0 p.1
      where
        some_count : (v : ℕ) → 0 < v → (v ≡ suc (v - 1))
        some_count v p = omega arith

        go : Dec (far < n) → keeps_nulls d ≡ true → nulls_node (masks t) (nulls_data t) n d ≡ done d' → Same d'
        go (yes y) k q = let z = some_count n (omega arith) in far_same (n - 1) k d' (omega arith) (rw z at q)
        go (no y) k q = same_by (nulls n) d' h (goes_held (nulls_go x t m ss join keep c0 μ0 n d counters room run k n (omega arith)) d' q)

    call_same : (o : Call) (d' : Destination t) → perform t m ss o d ≡ done d' → Same d'
    call_same (copy s a e) = copy_same s a e
    call_same (nulls n) = nulls_same n

    abbrev tested_in : Destination t → Try (Destination t)
    tested_in d' = guard (fits plan parts t 0 d') 13 (done d')

    abbrev tested_room : Counts → Try Counts
    tested_room c = guard (room_for plan parts t 0 c) 13 (done c)

    one_test : (d' : Destination t) (a b : Bool) → a ≡ b → map_try (held t) (guard a 13 (done d')) ≡ guard b 13 (done (held t d'))
    one_test d' true true e = refl
    one_test d' false false e = refl
    one_test d' true false e = absurd (false≢true (sym e))
    one_test d' false true e = absurd (false≢true e)

    both_test : {Q : Destination t → Type 0} {p : Try (Destination t)} {s : Try Counts} → Agrees (held t) Q p s → ((d' : Destination t) → p ≡ done d' → Same d')
        → map_try (held t) (then p tested_in) ≡ then s tested_room
    both_test (both d' q) f = one_test d' (fits plan parts t 0 d') (room_for plan parts t 0 (held t d')) (f d' refl)
    both_test (neither g) f = refl

    -- THE ANSWER TO ANY CALL, by counts
    pub answer_is : (o : Call) → map_try (held t) (answer_in plan parts t m ss o d) ≡ answer_room plan parts t keep m ss o (held t d)
    answer_is o = both_test (one_order t m ss (lawful x t m ss join) (obeys x t m ss join) keep o d run.state) (call_same o)

    ground_by_lem : {o : Call} {p : Try (Destination t)} {a : After} → Answers x t m ss join keep c0 μ0 o d counters room p a → a.refusal ≡ ground_of (map_try (held t) p)
    ground_by_lem (made d' a e r k) = e
    ground_by_lem (not_made g a e l c s) = e

    -- .. IS THE GROUND THAT THE ENTRY POINTS ANSWER
    pub ground_is : (o : Call) → (ordered x counters room o).refusal ≡ ground_of (answer_room plan parts t keep m ss o (held t d))
    ground_is o = ground_by_lem (order_step_lem x t m ss join keep c0 μ0 o d counters room run) ∙ ap ground_of (answer_is o)

  -- ---- any list of calls

  -- the rows and the nulls counted, from counts
  pub record Booked (os : List Call) (d : Destination t) (c : Counts) : Type 0 where
    pub rows_booked : book_in plan parts t m ss keep os d ≡ book_room plan parts t keep m ss os c
    pub nulls_booked_lem : (answers_in plan parts t m ss os d).null_count ≡ d.null_count + counted_if keep (nulls_room plan parts t keep m ss os c)
    pub held_booked : held t (answers_in plan parts t m ss os d) ≡ counts_after plan parts t keep m ss os c

  -- after a call and these
  record BookedOn (o : Call) (os : List Call) (d : Destination t) (p : Try (Destination t)) (s : Try Counts) : Type 0 where
    rows_on : ◌≡◌ {A = List Row}
        (elim p [ done d' ↦ entered t keep m ss o ++ book_in plan parts t m ss keep os d' | stop g ↦ book_in plan parts t m ss keep os d ])
        (elim s [ done c' ↦ entered t keep m ss o ++ book_room plan parts t keep m ss os c' | stop g ↦ book_room plan parts t keep m ss os (held t d) ])
    nulls_on : (answers_in plan parts t m ss os (after p d)).null_count
        ≡ d.null_count + counted_if keep (elim s [ done c' ↦ nulls_entered t keep m ss o + nulls_room plan parts t keep m ss os c' | stop g ↦ nulls_room plan parts t keep m ss os (held t d) ])
    held_on : held t (answers_in plan parts t m ss os (after p d)) ≡ counts_after plan parts t keep m ss os (after s (held t d))

  pub booked : (os : List Call) (d : Destination t) (counters room : List ℕ) → Runs d counters room → Booked os d (held t d)
  booked [] d counters room run = record { rows_booked = refl; nulls_booked_lem = go keep; held_booked = refl }
    where
      go : (b : Bool) → d.null_count ≡ d.null_count + counted_if b 0
      go true = omega arith
      go false = omega arith
  booked (o ∷ os) d counters room run =
      let r = go (order_step_lem x t m ss join keep c0 μ0 o d counters room run) (answer_is d counters room run o) (λ d' c r q. booked os d' c r q) in
      record { rows_booked = r.rows_on; nulls_booked_lem = r.nulls_on; held_booked = r.held_on }
    where
      sum : (b : Bool) (a y z u v : ℕ) → a ≡ y + counted_if b u → y ≡ z + counted_if b v → a ≡ z + counted_if b (v + u)
      sum true a y z u v e f = omega arith
      sum false a y z u v e f = omega arith

      go : {p : Try (Destination t)} {s : Try Counts} {a : After} → Answers x t m ss join keep c0 μ0 o d counters room p a → map_try (held t) p ≡ s
          → ((d' : Destination t) (c r : List ℕ) → Runs d' c r → Booked os d' (held t d')) → BookedOn o os d p s
      go (made d' a e r did) q f =
          let b = f d' a.counters a.room r in
          subst (BookedOn o os d (done d')) q
          (record { rows_on = ap (entered t keep m ss o ++◌) b.rows_booked; nulls_on = sum keep _ _ _ _ _ b.nulls_booked_lem did.count_is; held_on = b.held_booked })
      go (not_made g a e l c s) q f =
          let b = f d counters room run in
          subst (BookedOn o os d (stop g)) q (record { rows_on = b.rows_booked; nulls_on = b.nulls_booked_lem; held_on = b.held_booked })

  -- THE BOOK BY THE ANSWERS of the entry points
  pub booked_by : (os : List Call) (d : Destination t) (counters room : List ℕ) → Runs d counters room
      → book_by plan parts t keep m ss os (grounds_of x counters room os) ≡ book_in plan parts t m ss keep os d
  unfolding grounds_of
  booked_by [] d counters room run = refl
  booked_by (o ∷ os) d counters room run = go (order_step_lem x t m ss join keep c0 μ0 o d counters room run) (λ d' c r q. booked_by os d' c r q)
    where
      go : {p : Try (Destination t)} {a : After} → Answers x t m ss join keep c0 μ0 o d counters room p a
          → ((d' : Destination t) (c r : List ℕ) → Runs d' c r → book_by plan parts t keep m ss os (grounds_of x c r os) ≡ book_in plan parts t m ss keep os d')
          → ◌≡◌ {A = List Row} (cond (eqb a.refusal 0) (entered t keep m ss o) [] ++ book_by plan parts t keep m ss os (grounds_of x a.counters a.room os))
          (elim p [ done d' ↦ entered t keep m ss o ++ book_in plan parts t m ss keep os d' | stop g ↦ book_in plan parts t m ss keep os d ])
      go (made d' a e r did) f = rw (eq-eqb a.refusal 0 e) (ap (entered t keep m ss o ++◌) (f d' a.counters a.room r))
      go (not_made g a e l c s) f = rw (ne_eqb a.refusal 0 (λ z. omega arith), c, s) (f d counters room run)
