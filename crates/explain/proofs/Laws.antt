-- What stops an order, by the ways that the code goes. Assumes nothing.
use mathlib.Core.Path.{◌≡◌, refl, sym, ap, ap₂, subst, ◌∙◌}
use mathlib.Core.Bool.{Bool, true, false, not, cond, ◌&&◌}
use mathlib.Core.List.{List, [], ◌∷◌}
use Prim.Native.Nat.{ℕ, zero, suc, ◌+◌, ◌*◌, ◌-◌, ◌≤◌, ◌<◌, ◌/◌, min}
use native.Mathlib.Numerals.{add-one}
use native.Mathlib.Omega.{arith}
use lib.ListN.{length, get_or}
use lib.Dec.{leb, ltb, eqb}
use borrow.Author.Tests.{leb-true, eq-eqb, ne_eqb, le-leb, lt-leb, lt-ltb, le-ltb}
use Rattle.array_data.proofs.lent_tables.Laws.{no, yes, and_left, and_right}
use Rattle.walk.specs.State.{keeps_of, rows, far, top}
use Rattle.walk.specs.Log.{Out, need, fail}
use Rattle.walk.specs.Copy.{copy_walk}
use Rattle.walk.specs.Nulls.{null_walk}
use Rattle.leaf_walk.specs.Join.{join}
use Rattle.plan.specs.parts.Parts.{parts_within}
use Rattle.model.specs.Book.{Call, copy, nulls}
use Rattle.refinement.specs.orders.Sound.{plan_sound, walkable}
use Rattle.columns.specs.Grounds.{ceiling}
use Rattle.refinement.specs.orders.Order.{Lent, join_of, source_count, source_length}
use Rattle.refinement.specs.orders.Measure.{Measured, measured}
use Rattle.transform.specs.Answer.{lent}
use Rattle.transform.proofs.Laws.{null_plan}
use Rattle.trip.specs.Trip.{longest, call_of, call_at, calls_from, calls_of, order_measure}
use Rattle.trip.specs.Walk.{order_walk}
use Rattle.trip.proofs.Steps.{measure_is}
use Rattle.trip.proofs.Long.{long_order}
use Rattle.explain.specs.declared.stops.Why.{Why}
use Rattle.explain.specs.declared.stops.WhyListed.{WhyListed}
use Rattle.explain.specs.stops.Why.{only, nothing, unless, past}
use Rattle.explain.specs.stops.Copy.{why_copy}
use Rattle.explain.specs.stops.Nulls.{walked, why_nulls}
use Rattle.explain.specs.stops.Parts.{why_parts}
use Rattle.explain.specs.stops.Order.{why_settled, why_copy_order, why_null_order, why_order, listed, why_listed_from, why_trip}
use Rattle.explain.proofs.stops.Says.{Says}
use Rattle.explain.specs.stop_walks.Step.{Tried}
use Rattle.explain.specs.Explains.{Settles, why_call, Explains}
use Rattle.explain.proofs.State.{why_plan}

pub small_room : (plan : List ℕ) (m : ℕ) → walkable plan m ≡ true → m < top
unfolding walkable
small_room plan m h = let l = leb-true m ceiling (and_left (leb m ceiling) (plan_sound plan) h) in omega (arith, l)

-- ---- a walk, then 14 and 13

module _ (x : Lent) (m : ℕ) {c : List ℕ} (n : ℕ) {o : Out} {v : Why} (says : Says v o) {g : ℕ} {c2 : List ℕ} (t : Tried o c g c2) where
  pub stopped : (g ≡ 0 → ⊥) → {w : Why} → c2 ≡ c → {c3 : List ℕ} → w ≡ v → Settles x m c n o v w c3
  unfolding why_settled past
  stopped h {w} e k =
      let z : o.ans ≡ 0 → ⊥ = λ y. h (t.answer ∙ y) in
      record { why = k ∙ rw (ne_eqb o.ans 0 z) refl; left = λ y. absurd (z (sym (ap (λ u. u.refusal) k ∙ says.refusal) ∙ y)) }

  pub kept : (g ≡ 0 → ⊥) → c2 ≡ c
  kept h = rw (ne_eqb g 0 h) at t.counters

  pub settled : g ≡ 0 → {r : ℕ} → r ≡ rows c 0 → {w : Why} → w ≡ unless (parts_within x.plan x.parts m) (only 14) (why_parts x.plan c2 x.parts (r + n)) → Settles x m c n o v w c2
  unfolding why_settled past
  settled h e k =
      let left : c2 ≡ o.counters = rw (eq-eqb g 0 h) at t.counters in
      record { why = k ∙ rw (eq-eqb o.ans 0 (sym t.answer ∙ h), left, e) refl; left = λ z. (sym t.answer ∙ h, left) }

-- ---- one order

known : (x : Lent) (s : ℕ) {k : ℕ} → k ≡ source_count x.plan → s < k → ltb s (source_count x.plan) ≡ true
known x s q f = lt-ltb s (source_count x.plan) (subst (λ z. s < z) q f)

rows_are : (x : Lent) (s a e : ℕ) {first : ℕ} → first ≡ get_or x.sources (2 * s) 0 → {t : Bool} → t ≡ (leb a e && leb e (get_or x.lengths (2 * first) 0)) → (leb a e && leb e (source_length x s)) ≡ t
rows_are x s a e p h = sym (h ∙ rw p refl)

module _ (x : Lent) (m : ℕ) {c : List ℕ} where
  pub no_source : (s a e : ℕ) {k : ℕ} → k ≡ source_count x.plan → k ≤ s → {w : Why} → w ≡ only 1 → {c2 : List ℕ} → Explains x m (copy s a e) c w c2
  unfolding unless
  no_source s a e q f h = record { why = h ∙ rw (le-ltb s (source_count x.plan) (subst (λ z. z ≤ s) q f)) refl; left = λ z. absurd (omega (arith, sym (ap (λ u. u.refusal) h) ∙ z)) }

  module _ (s a e : ℕ) {k : ℕ} (q : k ≡ source_count x.plan) (f : s < k) {first : ℕ} (p : first ≡ get_or x.sources (2 * s) 0) {t : Bool} (h : t ≡ (leb a e && leb e (get_or x.lengths (2 * first) 0))) where
    pub no_rows : not t ≡ true → {w : Why} → w ≡ only 2 → {c2 : List ℕ} → Explains x m (copy s a e) c w c2
    unfolding unless
    no_rows z l = record { why = l ∙ rw (known x s q f, rows_are x s a e p h ∙ h ∙ no h z) refl; left = λ y. absurd (omega (arith, sym (ap (λ u. u.refusal) l) ∙ y)) }

    pub copied : not t ≡ false → {w : Why} {c2 : List ℕ}
        → Settles x m c (e - a) (copy_walk (join x.plan x.parts x.lengths x.places x.body first s) 8 0 a (e - a) c) (why_copy (join x.plan x.parts x.lengths x.places x.body first s) 8 0 a (e - a) c) w c2
        → Explains x m (copy s a e) c w c2
    unfolding unless order_walk need
    copied z d =
        let y = known x s q f in
        let r = rows_are x s a e p h ∙ h ∙ yes h z in
        record {
          why = d.why ∙ rw (y, r, p) refl;
          left = λ u. (rw (y, r, ← p) (d.left u).0, (d.left u).1 ∙ rw (y, r, p) refl);
        }

  module _ (n : ℕ) {k : ℕ} (q : k ≡ keeps_of x.plan 0) where
    pub no_nulls : k ≡ 0 → {w : Why} → w ≡ only 3 → {c2 : List ℕ} → Explains x m (nulls n) c w c2
    no_nulls z l = record { why = l ∙ rw (eq-eqb (keeps_of x.plan 0) 0 (sym q ∙ z)) refl; left = λ y. absurd (omega (arith, sym (ap (λ u. u.refusal) l) ∙ y)) }

    pub nulled : (k ≡ 0 → ⊥) → {w : Why} {c2 : List ℕ}
        → Settles x m c n (null_walk (join x.plan x.parts [] [] [] 0 0) 8 0 (walked n) c) (why_nulls (join x.plan x.parts [] [] [] 0 0) 8 0 n c) w c2 → Explains x m (nulls n) c w c2
    unfolding order_walk need
    nulled z d =
        let y = ne_eqb (keeps_of x.plan 0) 0 (λ u. z (q ∙ u)) in
        let e = null_plan x.plan x.parts x.parts [] x.lengths [] x.places [] x.body 0 (get_or x.sources 0 0) 0 0 8 0 (walked n) c in
        let f = why_plan x.plan x.parts x.parts [] x.lengths [] x.places [] x.body 0 (get_or x.sources 0 0) 0 0 8 0 n c in
        record {
          why = d.why ∙ ap₂ (λ (o : Out) (v : Why). why_settled x m c n o v) e f ∙ rw y refl;
          left = λ u. (rw (y, ← e) (d.left u).0, (d.left u).1 ∙ ap (λ (o : Out). o.counters) e ∙ rw y refl);
        }

  -- by its words
  module _ (words : List ℕ) (k : ℕ) {kind a : ℕ} (e0 : kind ≡ get_or words (4 * k) 0) (e1 : a ≡ get_or words (4 * k + 1) 0) {w : Why} {c2 : List ℕ} where
    pub words_nulls : (kind ≡ 0 → ⊥) → Explains x m (nulls a) c w c2 → Explains x m (call_at words k) c w c2
    words_nulls h d = subst (λ o. Explains x m o c w c2) (rw (ne_eqb (get_or words (4 * k) 0) 0 (λ z. h (e0 ∙ z))) (ap nulls e1)) d

    pub words_copy : kind ≡ 0 → {s b e : ℕ} → s ≡ min a 4294967295 → b ≡ get_or words (4 * k + 2) 0 → e ≡ get_or words (4 * k + 3) 0 → Explains x m (copy s b e) c w c2 → Explains x m (call_at words k) c w c2
    words_copy h {s} {b} {e} q e2 e3 d = subst (λ o. Explains x m o c w c2) (rw (eq-eqb (get_or words (4 * k) 0) 0 (sym e0 ∙ h)) (rw (q, e1, e2, e3) refl)) d

-- ---- what a caller asks

module _ (x : Lent) (m : ℕ) (c : List ℕ) where
  pub why_is : length c ≡ 96 → walkable x.plan m ≡ true → (o : Call) → why_order x m c o ≡ why_call x m c o
  unfolding why_copy_order why_null_order unless
  why_is h w (copy s a e) = rw (eq-eqb (length c) 96 h, w) refl
  why_is h w (nulls n) = rw (eq-eqb (length c) 96 h, w) refl

  pub no_counters : (length c ≡ 96 → ⊥) → (o : Call) → why_order x m c o ≡ only 14
  unfolding why_copy_order why_null_order unless
  no_counters h (copy s a e) = rw (ne_eqb (length c) 96 h) refl
  no_counters h (nulls n) = rw (ne_eqb (length c) 96 h) refl

  pub no_plan : length c ≡ 96 → walkable x.plan m ≡ false → (o : Call) → why_order x m c o ≡ only 14
  unfolding why_copy_order why_null_order unless
  no_plan h w (copy s a e) = rw (eq-eqb (length c) 96 h, w) refl
  no_plan h w (nulls n) = rw (eq-eqb (length c) 96 h, w) refl

  pub asked : length c ≡ 96 → walkable x.plan m ≡ true → (o : Call) {d : List ℕ} {w : Why} {c2 : List ℕ} → d ≡ c → Explains x m o d w c2 → w ≡ why_order x m c o
  asked h w o {d} e s = s.why ∙ ap (λ (z : List ℕ). why_call x m z o) e ∙ sym (why_is h w o)

-- ---- a list

module _ (words : List ℕ) where
  length_calls : (n k : ℕ) → length (calls_from words n k) ≡ n
  unfolding calls_from
  length_calls zero k = refl
  length_calls (suc n) k = omega (arith, length_calls n (suc k))

  module _ (x : Lent) (m : ℕ) (c : List ℕ) where
    within : {n : ℕ} → n ≤ 256 → n ≡ length words / 4 → why_trip x m c (calls_of words) ≡ why_listed_from x m 0 c (calls_from words n 0)
    unfolding why_trip
    within {n} h e = subst (λ z. cond (leb (length (calls_from words z 0)) 256) (why_listed_from x m 0 c (calls_from words z 0)) (listed x m 0 (only 9)) ≡ why_listed_from x m 0 c (calls_from words n 0)) e
        (rw (length_calls n 0, le-leb n 256 h) refl)

    pair : (r : WhyListed) (g : ℕ) → (r.place ≡ 0) × (r.why ≡ only g) → r ≡ listed x m 0 (only g)
    pair r g q = ap₂ (λ (p : ℕ) (w : Why). listed x m p w) q.0 q.1

    pub too_many : (r : WhyListed) → 256 < length words / 4 → (r.place ≡ 0) × (r.why ≡ only 9) → r ≡ why_trip x m c (calls_of words)
    unfolding why_trip
    too_many r h q = pair r 9 q ∙ rw (length_calls (length words / 4) 0, lt-leb (length words / 4) 256 h) refl

    pub no_orders : (r : WhyListed) {n : ℕ} → n ≤ 256 → n ≡ length words / 4 → n ≡ 0 → (r.place ≡ 0) × (r.why ≡ only 0) → r ≡ why_trip x m c (calls_of words)
    unfolding why_listed_from calls_from
    no_orders r h e z q = pair r 0 q ∙ sym (within h e ∙ rw z refl)

    some_order : (n : ℕ) → (n ≡ 0 → ⊥) → n ≡ suc (n - 1)
    some_order n z = omega (arith, z)

    first_foreign : (n : ℕ) → (n ≡ 0 → ⊥) → ((o : Call) → why_order x m c o ≡ only 14) → why_listed_from x m 0 c (calls_from words n 0) ≡ listed x m 0 (only 14)
    unfolding why_listed_from calls_from
    first_foreign n z f = rw (some_order n z, f (call_at words 0)) refl

    module _ (r : WhyListed) {n : ℕ} (few : n ≤ 256) (l : n ≡ length words / 4) (some : n ≡ 0 → ⊥) (q : (r.place ≡ 0) × (r.why ≡ only 14)) where
      pub foreign_counters : (length c ≡ 96 → ⊥) → r ≡ why_trip x m c (calls_of words)
      foreign_counters h = pair r 14 q ∙ sym (within few l ∙ first_foreign n some (no_counters x m c h))

      pub foreign_plan : length c ≡ 96 → walkable x.plan m ≡ false → r ≡ why_trip x m c (calls_of words)
      foreign_plan h w = pair r 14 q ∙ sym (within few l ∙ first_foreign n some (no_plan x m c h w))

    -- the rest of a list, from number k on
    module _ (w : walkable x.plan m ≡ true) where
      sound : plan_sound x.plan ≡ true
      unfolding walkable
      sound = and_right (leb m ceiling) _ w

      pub list_from : {n : ℕ} → n ≤ 256 → n ≡ length words / 4 → {d : List ℕ} → d ≡ c → {n2 : ℕ} → n2 ≡ n → why_trip x m c (calls_of words) ≡ why_listed_from x m 0 d (calls_from words n2 0)
      list_from h e q p = within h e ∙ rw (q, p) refl

      module _ (n n2 k : ℕ) (e : n ≡ suc n2) {d : List ℕ} (h : length d ≡ 96) {v : Why} {c2 : List ℕ} (s : Explains x m (call_at words k) d v c2) where
        is_order : why_order x m d (call_at words k) ≡ v
        is_order = why_is x m d h w (call_at words k) ∙ sym s.why

        pub list_stop : (v.refusal ≡ 0 → ⊥) → {p : ℕ} → p ≡ k → why_listed_from x m k d (calls_from words n k) ≡ listed x m p v
        unfolding why_listed_from calls_from
        list_stop z q = rw (e, is_order, ne_eqb v.refusal 0 z, q) refl

        left_is : v.refusal ≡ 0 → (order_measure x d (call_at words k)).counters ≡ c2
        unfolding measured
        left_is z = ap (λ (u : Measured). u.counters) (measure_is x d d h sound (call_at words k)) ∙ rw (eq-eqb (order_walk x (call_at words k) d).ans 0 (s.left z).0) (sym (s.left z).1)

        pub list_on : v.refusal ≡ 0 → {k2 : ℕ} → k2 ≡ k + 1 → why_listed_from x m k d (calls_from words n k) ≡ why_listed_from x m k2 c2 (calls_from words n2 k2)
        unfolding why_listed_from calls_from
        list_on z q = rw (e, is_order, eq-eqb v.refusal 0 z, q, add-one k, left_is z) refl

        pub list_long : v.refusal ≡ 0 → length c2 ≡ 96
        list_long z = ap length (s.left z).1 ∙ (long_order x (call_at words k) (record { size = h })).left.size

      pub list_end : (n k : ℕ) (d : List ℕ) → n ≡ 0 → {r : WhyListed} → (r.place ≡ 0) × (r.why ≡ only 0) → r ≡ why_listed_from x m k d (calls_from words n k)
      unfolding why_listed_from calls_from
      list_end n k d e {r} q = pair r 0 q ∙ rw e refl
