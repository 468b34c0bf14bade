-- What the questions about counters come to, by the ways that the code goes. Assumes nothing.
use mathlib.Core.Path.{◌≡◌, refl, sym, ap, subst, ◌∙◌}
use mathlib.Core.Bool.{true, false, ◌&&◌}
use mathlib.Core.List.{List, []}
use Prim.Native.Nat.{ℕ, ◌*◌, ◌-◌, ◌≤◌, ◌<◌, min}
use lib.ListN.{length, get_or, replicate}
use lib.Dec.{leb}
use borrow.Author.Tests.{eq-eqb, ne_eqb, lt-ltb, le-ltb, le-leb, lt-leb}
use Rattle.walk.specs.State.{keeps_of, far}
use Rattle.walk.specs.Log.{Out, Did}
use Rattle.walk.specs.Copy.{copy_walk}
use Rattle.walk.specs.Nulls.{null_walk}
use Rattle.leaf_walk.specs.Join.{join}
use Rattle.refinement.specs.orders.Sound.{plan_sound}
use Rattle.refinement.specs.orders.Order.{Lent, source_count, source_length}
use Rattle.refinement.specs.orders.Measure.{measured, copy_measure, null_measure}
use Rattle.refinement.specs.opening.Open.{open_walk_of}
use Rattle.refinement.specs.opening.Ask.{open_measure}
use Rattle.transform.proofs.Laws.{null_plan}
use Rattle.measure.specs.Answer.{Measures}

-- ---- a walk that is tried

module _ (old counters : List ℕ) (walk : List ℕ → Out) {plan parts room l : List ℕ} (q : l ≡ counters) {g : ℕ} {c1 room1 : List ℕ}
    (d : Did plan parts false (walk l) room g c1 room1) where
  tried : Did plan parts false (walk counters) room g c1 room1
  tried = subst (λ z. Did plan parts false (walk z) room g c1 room1) q d

  pub measured_no : (g ≡ 0 → ⊥) → Measures (measured old (walk counters)) g old
  unfolding measured
  measured_no h = rw (ne_eqb (walk counters).ans 0 (λ z. h (tried.answer ∙ z))) (record { refusal = tried.answer; counters = refl })

  pub measured_made : {c3 : List ℕ} → g ≡ 0 → c3 ≡ c1 → Measures (measured old (walk counters)) 0 c3
  unfolding measured
  measured_made h s = rw (eq-eqb (walk counters).ans 0 (sym tried.answer ∙ h)) (record { refusal = refl; counters = s ∙ tried.counters })

-- ---- a copy

module _ (counters : List ℕ) (x : Lent) (s a e : ℕ) where
  pub copy_words : (length counters ≡ 96 → ⊥) → Measures (copy_measure counters x s a e) 14 counters
  unfolding copy_measure
  copy_words h = rw (ne_eqb (length counters) 96 h) (record { refusal = refl; counters = refl })

  pub copy_foreign : length counters ≡ 96 → plan_sound x.plan ≡ false → Measures (copy_measure counters x s a e) 14 counters
  unfolding copy_measure
  copy_foreign h w = rw (eq-eqb (length counters) 96 h, w) (record { refusal = refl; counters = refl })

  module _ (h : length counters ≡ 96) (w : plan_sound x.plan ≡ true) {m : ℕ} (q : m ≡ source_count x.plan) where
    pub copy_source : m ≤ s → Measures (copy_measure counters x s a e) 1 counters
    unfolding copy_measure
    copy_source f =
        let g : source_count x.plan ≤ s = subst (λ z. z ≤ s) q f in
        rw (eq-eqb (length counters) 96 h, w, le-ltb s (source_count x.plan) g) (record { refusal = refl; counters = refl })

    module _ (f : s < m) {first : ℕ} (k : first ≡ get_or x.sources (2 * s) 0) where
      known : s < source_count x.plan
      known = subst (λ z. s < z) q f

      pub copy_range : (leb a e && leb e (get_or x.lengths (2 * first) 0)) ≡ false → Measures (copy_measure counters x s a e) 2 counters
      unfolding copy_measure
      copy_range t =
          let u : (leb a e && leb e (source_length x s)) ≡ false = subst (λ z. (leb a e && leb e (get_or x.lengths (2 * z) 0)) ≡ false) k t in
          rw (eq-eqb (length counters) 96 h, w, lt-ltb s (source_count x.plan) known, u) (record { refusal = refl; counters = refl })

      pub copy_made : {r : ℕ} {c : List ℕ} → (leb a e && leb e (get_or x.lengths (2 * first) 0)) ≡ true
          → Measures (measured counters (copy_walk (join x.plan x.parts x.lengths x.places x.body first s) 8 0 a (e - a) counters)) r c
          → Measures (copy_measure counters x s a e) r c
      unfolding copy_measure
      copy_made {r} {c} t d =
          let u : (leb a e && leb e (source_length x s)) ≡ true = subst (λ z. (leb a e && leb e (get_or x.lengths (2 * z) 0)) ≡ true) k t in
          rw (eq-eqb (length counters) 96 h, w, lt-ltb s (source_count x.plan) known, u)
          (subst (λ z. Measures (measured counters (copy_walk (join x.plan x.parts x.lengths x.places x.body z s) 8 0 a (e - a) counters)) r c) k d)

-- ---- nulls

module _ (counters : List ℕ) (x : Lent) (n : ℕ) where
  pub null_words : (length counters ≡ 96 → ⊥) → Measures (null_measure counters x n) 14 counters
  unfolding null_measure
  null_words h = rw (ne_eqb (length counters) 96 h) (record { refusal = refl; counters = refl })

  pub null_foreign : length counters ≡ 96 → plan_sound x.plan ≡ false → Measures (null_measure counters x n) 14 counters
  unfolding null_measure
  null_foreign h w = rw (eq-eqb (length counters) 96 h, w) (record { refusal = refl; counters = refl })

  module _ (h : length counters ≡ 96) (w : plan_sound x.plan ≡ true) {k : ℕ} (q : k ≡ keeps_of x.plan 0) where
    pub null_keeps : k ≡ 0 → Measures (null_measure counters x n) 3 counters
    unfolding null_measure
    null_keeps z = rw (eq-eqb (length counters) 96 h, w, eq-eqb (keeps_of x.plan 0) 0 (sym q ∙ z)) (record { refusal = refl; counters = refl })

    pub null_made : {m r : ℕ} {c : List ℕ} → (k ≡ 0 → ⊥) → m ≡ min n far
        → Measures (measured counters (null_walk (join x.plan x.parts [] [] [] 0 0) 8 0 m counters)) r c → Measures (null_measure counters x n) r c
    unfolding null_measure
    null_made {m} {r} {c} z e d =
        rw (eq-eqb (length counters) 96 h, w, ne_eqb (keeps_of x.plan 0) 0 (λ y. z (q ∙ y)))
        (subst (λ o. Measures (measured counters o) r c)
        (ap (λ y. null_walk (join x.plan x.parts [] [] [] 0 0) 8 0 y counters) e ∙ null_plan x.plan x.parts x.parts [] x.lengths [] x.places [] x.body 0 (get_or x.sources 0 0) 0 0 8 0 (min n far) counters)
        d)

-- ---- an opening

module _ (counters : List ℕ) (x : Lent) where
  pub open_words : (length counters ≡ 96 → ⊥) → Measures (open_measure x counters) 14 counters
  unfolding open_measure
  open_words h = rw (ne_eqb (length counters) 96 h) (record { refusal = refl; counters = refl })

  module _ (h : length counters ≡ 96) {m : ℕ} (q : m ≡ source_count x.plan) where
    pub open_many : 16 < m → Measures (open_measure x counters) 12 counters
    unfolding open_measure
    open_many f =
        let g : 16 < source_count x.plan = subst (λ z. 16 < z) q f in
        rw (eq-eqb (length counters) 96 h, lt-leb (source_count x.plan) 16 g) (record { refusal = refl; counters = refl })

    pub open_foreign : m ≤ 16 → plan_sound x.plan ≡ false → Measures (open_measure x counters) 12 counters
    unfolding open_measure
    open_foreign f w =
        let g : source_count x.plan ≤ 16 = subst (λ z. z ≤ 16) q f in
        rw (eq-eqb (length counters) 96 h, le-leb (source_count x.plan) 16 g, w) (record { refusal = refl; counters = refl })

    pub open_made : {r : ℕ} {c : List ℕ} → m ≤ 16 → plan_sound x.plan ≡ true → Measures (measured counters (open_walk_of x (replicate 96 0))) r c → Measures (open_measure x counters) r c
    unfolding open_measure
    open_made f w d =
        let g : source_count x.plan ≤ 16 = subst (λ z. z ≤ 16) q f in
        rw (eq-eqb (length counters) 96 h, le-leb (source_count x.plan) 16 g, w) d
