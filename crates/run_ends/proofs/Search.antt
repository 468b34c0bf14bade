-- A search by quarters, turn by turn; where the ends rise it answers the first run above the row. Assumes nothing.
use mathlib.Core.Path.{◌≡◌, refl, sym, ◌∙◌}
use mathlib.Core.Logic.{⊎_elim}
use mathlib.Core.Bool.{Bool, true, false, cond}
use Prim.Native.Nat.{ℕ, zero, suc, ◌+◌, ◌*◌, ◌-◌, ◌/◌, ◌≤◌, ◌<◌}
use native.Mathlib.Nat.{eq-or-lt_of_le, mul_comm, mul-le-mul_right}
use native.Mathlib.Numerals.{add-one}
use native.Mathlib.Omega.{arith}
use lib.Dec.{ltb}
use borrow.Author.Tests.{ltb-true, ltb-false, lt-ltb, le-ltb}
use Rattle.run_ends.specs.Lookup.{scan, first, not_above, tally, passed, quarter, Climbs, Covers}

-- what is left of a search is the whole search
pub record Quartering (e : ℕ → ℕ) (x n base size : ℕ) : Type 0 where
  pub turns : ℕ
  pub within : base + size ≤ n
  pub enough : size ≤ turns
  pub same : quarter e x turns base size ≡ quarter e x n 0 n

pub begin : (e : ℕ → ℕ) (x n : ℕ) → Quartering e x n 0 n
begin e x n = record { turns = n; within = omega arith; enough = omega arith; same = refl }

pub at_most_one : (x y : ℕ) → not_above x y ≤ 1
at_most_one x y = go (ltb x y)
  where
    go : (t : Bool) → cond t 0 1 ≤ 1
    go true = omega arith
    go false = omega arith

pub at_most_three : (e : ℕ → ℕ) (x base q : ℕ) → passed e x base q ≤ 3
at_most_three e x base q = omega (arith, at_most_one x (e (base + q)), at_most_one x (e (base + 2 * q)), at_most_one x (e (base + 3 * q)))

-- at most three quarters are passed
pub quarters : (q t : ℕ) → t ≤ 3 → q * t ≤ 3 * q
quarters q t h = omega (arith, mul-le-mul_right q h, mul_comm q t)

module _ (e : ℕ → ℕ) (x n base size : ℕ) where
  turn : (t : ℕ) → 4 ≤ size → quarter e x (suc t) base size ≡ quarter e x t (base + size / 4 * passed e x base (size / 4)) (size - 3 * (size / 4))
  unfolding quarter
  turn t h = rw (le-ltb size 4 h)

  last_turn : (t : ℕ) → size < 4 → quarter e x t base size ≡ base + tally e x base size
  unfolding quarter
  last_turn zero h = refl
  last_turn (suc t) h = rw (lt-ltb size 4 h)

  pub go_on_lem : {t : ℕ} → 4 ≤ size → t ≡ passed e x base (size / 4) → Quartering e x n base size → Quartering e x n (base + size / 4 * t) (size - 3 * (size / 4))
  go_on_lem {t} h p b = rw p (go b.turns b.enough b.same)
    where
      few : size / 4 * passed e x base (size / 4) ≤ 3 * (size / 4)
      few = quarters (size / 4) _ (at_most_three e x base (size / 4))

      go : (u : ℕ) → size ≤ u → quarter e x u base size ≡ quarter e x n 0 n
          → Quartering e x n (base + size / 4 * passed e x base (size / 4)) (size - 3 * (size / 4))
      go zero l q = absurd (omega arith)
      go (suc u) l q =
          record { turns = u; within = omega (arith, few, b.within); enough = omega arith; same = sym (turn u h) ∙ q }

  pub stop : size < 4 → Quartering e x n base size → base + tally e x base size ≡ quarter e x n 0 n
  stop h b = sym (last_turn b.turns h) ∙ b.same

-- ---- the first run above a row

-- r is the first of n runs whose end is above row x, or n where there is none
pub record First (e : ℕ → ℕ) (n x r : ℕ) : Type 0 where
  pub within : r ≤ n
  pub before : (k : ℕ) → k < r → e k ≤ x
  pub above : r < n → x < e r

pub first_unique : {e : ℕ → ℕ} {n x a b : ℕ} → First e n x a → First e n x b → a ≡ b
first_unique {e} {n} {x} {a} {b} f g =
    let p : b < a → ⊥ = λ h. omega (arith, f.before b h, g.above (omega arith)) in
    let q : a < b → ⊥ = λ h. omega (arith, g.before a h, f.above (omega arith)) in
    omega arith

module _ (e : ℕ → ℕ) (n x : ℕ) where
  scan_from : (m i : ℕ) → i + m ≡ n → ((k : ℕ) → k < i → e k ≤ x) → First e n x (scan e x m i)
  unfolding scan
  scan_from zero i h b = record { within = omega arith; before = b; above = λ g. absurd (omega arith) }
  scan_from (suc m) i h b = go (scan_from m (suc i) (omega arith)) (ltb x (e i)) refl
    where
      go : (((k : ℕ) → k < suc i → e k ≤ x) → First e n x (scan e x m (suc i))) → (t : Bool) → ltb x (e i) ≡ t
          → First e n x (cond t i (scan e x m (suc i)))
      go rest true p = record { within = omega arith; before = b; above = λ g. ltb-true x (e i) p }
      go rest false p =
          rest (λ k g. ⊎_elim (λ (q : k ≡ i). rw q (ltb-false x (e i) p)) (λ (q : k < i). b k q) (eq-or-lt_of_le (omega arith)))

  -- the definition says what the format says
  pub first_is : First e n x (first e n x)
  first_is = scan_from n 0 (omega arith) (λ k g. absurd (omega arith))

  pub first_of_lem : {r : ℕ} → First e n x r → first e n x ≡ r
  first_of_lem f = first_unique first_is f

-- ---- rising ends

pub climbs_lt : {e : ℕ → ℕ} {n : ℕ} → Climbs e n → (i j : ℕ) → i < j → j < n → e i < e j
climbs_lt c i zero h g = absurd (omega arith)
climbs_lt {e} {n} c i (suc j) h g =
    let s : e j < e (suc j) = rw add-one at (c.rises j (omega arith)) in
    ⊎_elim (λ (q : i ≡ j). rw q s) (λ (q : i < j). omega (arith, climbs_lt c i j q (omega arith))) (eq-or-lt_of_le (omega arith))

pub climbs_le : {e : ℕ → ℕ} {n : ℕ} → Climbs e n → (i j : ℕ) → i ≤ j → j < n → e i ≤ e j
climbs_le {e} c i j h g = ⊎_elim (λ (q : i ≡ j). rw q (omega arith)) (λ (q : i < j). omega (arith, climbs_lt c i j q g)) (eq-or-lt_of_le h)

pub climbs_pos : {e : ℕ → ℕ} {n : ℕ} → Climbs e n → (k : ℕ) → k < n → 1 ≤ e k
climbs_pos c k h = omega (arith, c.start (omega arith), climbs_le c 0 k (omega arith) h)

module _ (e : ℕ → ℕ) (n x : ℕ) (c : Climbs e n) where
  -- what a search among `size` runs from `base` on may go by
  record Between (base size : ℕ) : Type 0 where
    pub within : base + size ≤ n
    pub below : (k : ℕ) → k < base → e k ≤ x
    pub beyond : (k : ℕ) → base + size ≤ k → k < n → x < e k

  -- the runs up to one whose end is not above the row, and those from one on whose end is
  up_to : (p : ℕ) → p < n → e p ≤ x → (k : ℕ) → k ≤ p → e k ≤ x
  up_to p l h k m = omega (arith, climbs_le c k p m l)

  from_on : (p : ℕ) → x < e p → (k : ℕ) → p ≤ k → k < n → x < e k
  from_on p h k m l = omega (arith, climbs_le c p k m l)

  -- ---- the last runs are counted

  tally_all : (base m : ℕ) → ((k : ℕ) → k < base + m → e k ≤ x) → tally e x base m ≡ m
  unfolding tally
  tally_all base zero h = refl
  tally_all base (suc m) h = rw (tally_all base m (λ k l. h k (omega arith)), le-ltb x (e (base + m)) (h (base + m) (omega arith))) (add-one m)

  counted : (m base : ℕ) → Between base m → First e n x (base + tally e x base m)
  unfolding tally
  counted zero base b = record { within = omega (arith, b.within); before = λ k h. b.below k (omega arith); above = λ h. b.beyond (base + 0) (omega arith) h }
  counted (suc m) base b = go (counted m base) (ltb x (e (base + m))) refl
    where
      go : (Between base m → First e n x (base + tally e x base m)) → (t : Bool) → ltb x (e (base + m)) ≡ t → First e n x (base + (tally e x base m + cond t 0 1))
      go rest true p =
          let z : tally e x base m + 0 ≡ tally e x base m = omega arith in
          rw z (rest (record { within = omega (arith, b.within); below = b.below; beyond = from_on (base + m) (ltb-true _ _ p) }))
      go rest false p =
          let low : (k : ℕ) → k ≤ base + m → e k ≤ x = up_to (base + m) (omega (arith, b.within)) (ltb-false _ _ p) in
          rw (tally_all base m (λ k l. low k (omega arith)))
          (record { within = omega (arith, b.within); before = λ k h. low k (omega arith); above = λ h. b.beyond (base + (m + 1)) (omega arith) h })

  -- ---- one turn

  module _ (base size q : ℕ) (wide : 4 * q ≤ size) (some : 1 ≤ q) (b : Between base size) where
    abbrev Next : ℕ → Type 0
    Next t = Between (base + q * t) (size - 3 * q)

    -- the t-th of the quarters' runs is not above the row, and the next one is
    none_passed : x < e (base + q) → Next 0
    none_passed h = record { within = omega (arith, b.within); below = λ k l. b.below k (omega arith); beyond = λ k l. from_on (base + q) h k (omega arith) }

    one_passed : e (base + q) ≤ x → x < e (base + 2 * q) → Next 1
    one_passed h g = record { within = omega (arith, b.within); below = λ k l. up_to (base + q) (omega (arith, b.within)) h k (omega arith); beyond = λ k l. from_on (base + 2 * q) g k (omega arith) }

    two_passed : e (base + 2 * q) ≤ x → x < e (base + 3 * q) → Next 2
    two_passed h g = record { within = omega (arith, b.within); below = λ k l. up_to (base + 2 * q) (omega (arith, b.within)) h k (omega arith); beyond = λ k l. from_on (base + 3 * q) g k (omega arith) }

    all_passed : e (base + 3 * q) ≤ x → Next 3
    all_passed h = record { within = omega (arith, b.within); below = λ k l. up_to (base + 3 * q) (omega (arith, b.within)) h k (omega arith); beyond = λ k l. b.beyond k (omega arith) }

    between_turn : Next (passed e x base q)
    between_turn = go (ltb x (e (base + q))) refl (ltb x (e (base + 2 * q))) refl (ltb x (e (base + 3 * q))) refl
      where
        go : (t : Bool) → ltb x (e (base + q)) ≡ t → (u : Bool) → ltb x (e (base + 2 * q)) ≡ u → (v : Bool) → ltb x (e (base + 3 * q)) ≡ v → Next (cond t 0 1 + cond u 0 1 + cond v 0 1)
        go true f true g true h = none_passed (ltb-true _ _ f)
        go false f true g true h = one_passed (ltb-false _ _ f) (ltb-true _ _ g)
        go false f false g true h = two_passed (ltb-false _ _ g) (ltb-true _ _ h)
        go false f false g false h = all_passed (ltb-false _ _ h)
        go t f true g false h =
            absurd (omega (arith, ltb-true x (e (base + 2 * q)) g, up_to (base + 3 * q) (omega (arith, b.within)) (ltb-false _ _ h) (base + 2 * q) (omega arith)))
        go true f false g v h =
            absurd (omega (arith, ltb-true x (e (base + q)) f, up_to (base + 2 * q) (omega (arith, b.within)) (ltb-false _ _ g) (base + q) (omega arith)))

  -- ---- the whole search

  quarter_from : (t base size : ℕ) → size ≤ t → Between base size → First e n x (quarter e x t base size)
  quarter_from zero base size l b = rw (last_turn e x n base size 0 (omega arith)) (counted size base b)
  quarter_from (suc t) base size l b = go (quarter_from t) (ltb size 4) refl
    where
      go : ((m s : ℕ) → s ≤ t → Between m s → First e n x (quarter e x t m s)) → (u : Bool) → ltb size 4 ≡ u → First e n x (quarter e x (suc t) base size)
      go rest true p = rw (last_turn e x n base size (suc t) (ltb-true size 4 p)) (counted size base b)
      go rest false p =
          let h : 4 ≤ size = ltb-false size 4 p in
          rw (turn e x n base size t h) (rest _ _ (omega arith) (between_turn base size (size / 4) (omega arith) (omega arith) b))

  -- where the ends rise, the search by quarters answers the first run above the row
  pub quarter_first : quarter e x n 0 n ≡ first e n x
  quarter_first =
      first_unique
      (quarter_from n 0 n (omega arith) (record { within = omega arith; below = λ k h. absurd (omega arith); beyond = λ k h g. absurd (omega arith) }))
      (first_is e n x)

-- a row before the last that the runs cover has a run
pub covers_lt : {e : ℕ → ℕ} {n end x r : ℕ} → Covers e n end → x < end → First e n x r → r < n
covers_lt {e} {n} {end} {x} {r} v h f =
    let p : n ≤ r → ⊥ = λ g. omega (arith, v.runs, v.last, f.before (n - 1) (omega arith)) in omega arith
