-- Run ends as plain functions: the run that holds a slot, ends behind ends, and the ends of a copied stretch. Assumes nothing.
use mathlib.Core.Path.{◌≡◌, refl, sym}
use mathlib.Core.Bool.{Bool, true, false}
use Prim.Native.Nat.{ℕ, zero, suc, ◌+◌, ◌-◌, ◌≤◌, ◌<◌, min}
use native.Mathlib.Nat.{add-zero, add-suc}
use native.Mathlib.Decide.{dec_lt}
use native.Mathlib.Omega.{arith}
use lib.Dec.{ltb}
use borrow.Author.Tests.{ltb-true, ltb-false}
use Rattle.columnar.specs.RunEnd.{first_above, start_of}

-- ---- the run of a slot

-- run r, of c, holds slot i
pub record Holds (e : ℕ → ℕ) (c r i : ℕ) : Type 0 where
  pub is_run_lem : r < c
  pub above : start_of e r ≤ i
  pub below : i < e r

-- c runs, none empty, cover l slots
pub record Ends (e : ℕ → ℕ) (c l : ℕ) : Type 0 where
  pub rises : (r : ℕ) → r < c → start_of e r < e r
  pub covers : l ≡ start_of e c

module _ (e : ℕ → ℕ) where
  find_holds : (i n r c : ℕ) → r + n ≡ c → start_of e r ≤ i → i < start_of e c → Holds e c (first_above e i r n) i
  find_holds i zero r c q lo hi = absurd (let z : r ≡ c = omega arith in omega (arith, rw z at lo))
  find_holds i (suc n) r c q lo hi = go (ltb i (e r)) refl (find_holds i n (suc r) c (omega arith))
    where
      go : (b : Bool) → ltb i (e r) ≡ b → (e r ≤ i → i < start_of e c → Holds e c (first_above e i (suc r) n) i)
          → Holds e c (elim b [ true ↦ r | false ↦ first_above e i (suc r) n ]) i
      go true p f = record { is_run_lem = omega arith; above = lo; below = ltb-true _ _ p }
      go false p f = f (ltb-false _ _ p) hi

  -- `firstAbove` finds the run that holds a slot
  pub found : (c i : ℕ) → i < start_of e c → Holds e c (first_above e i 0 c) i
  found c i h = find_holds i c 0 c (omega arith) (omega arith) h

  module _ (c : ℕ) (rises : (r : ℕ) → r < c → start_of e r < e r) where
    pub start_le : (q r : ℕ) → q ≤ r → r ≤ c → start_of e q ≤ start_of e r
    start_le q zero a b = let z : q ≡ 0 = omega arith in rw z (omega arith)
    start_le q (suc r) a b = go (dec_lt q (suc r)) (start_le q r)
      where
        go : Dec (q < suc r) → (q ≤ r → r ≤ c → start_of e q ≤ start_of e r) → start_of e q ≤ e r
        go (yes p) f = omega (arith, f (omega arith) (omega arith), rises r (omega arith))
        go (no p) f = let z : q ≡ suc r = omega arith in rw z (omega arith)

    holds_le : (q r i j : ℕ) → i ≤ j → Holds e c q i → Holds e c r j → q ≤ r
    holds_le q r i j h a b = go (dec_lt r q)
      where
        go : Dec (r < q) → q ≤ r
        go (yes p) = absurd (omega (arith, start_le (suc r) q p (omega (arith, a.is_run_lem)), a.above, b.below))
        go (no p) = omega arith

    -- there is only one
    pub find_is : (r i : ℕ) → Holds e c r i → first_above e i 0 c ≡ r
    find_is r i h =
        let f = found c i (omega (arith, start_le (suc r) c h.is_run_lem (omega arith), h.below)) in
        omega (arith, holds_le _ r i i (omega arith) f h, holds_le r _ i i (omega arith) h f)

    -- a later slot is in no earlier run
    pub find_le : (i j : ℕ) → i ≤ j → j < start_of e c → first_above e i 0 c ≤ first_above e j 0 c
    find_le i j h q = holds_le _ _ i j h (found c i (omega arith)) (found c j q)

-- ---- ends behind ends: f has the p ends of d, then c more, which are those of t counted from l on

module _ (d : ℕ → ℕ) (p l : ℕ) (t : ℕ → ℕ) (c n : ℕ) (hd : Ends d p l) (ht : Ends t c n) (f : ℕ → ℕ)
    (old : (k : ℕ) → k < p → f k ≡ d k) (new : (k : ℕ) → k < c → f (p + k) ≡ l + t k) where
  start_old : (k : ℕ) → k ≤ p → start_of f k ≡ start_of d k
  start_old zero q = refl
  start_old (suc k) q = old k q

  start_new : (k : ℕ) → k ≤ c → start_of f (p + k) ≡ l + start_of t k
  start_new zero q = rw (add-zero p, start_old p (omega arith), add-zero l) (sym hd.covers)
  start_new (suc k) q = rw add-suc (new k q)

  split : (P : ℕ → Type 0) → ((k : ℕ) → k < p → P k) → ((k : ℕ) → k < c → P (p + k)) → (r : ℕ) → r < p + c → P r
  split P a b r q = go (dec_lt r p)
    where
      go : Dec (r < p) → P r
      go (yes h) = a r h
      go (no h) = let z : p + (r - p) ≡ r = omega arith in rw z at (b (r - p) (omega arith))

  pub both_rise : (r : ℕ) → r < p + c → start_of f r < f r
  both_rise =
      split (λ r. start_of f r < f r) (λ k q. rw (start_old k (omega arith), old k q) (hd.rises k q))
      (λ k q. rw (start_new k (omega arith), new k q) (omega (arith, ht.rises k q)))

  -- the ends together
  pub both_ends : Ends f (p + c) (l + n)
  both_ends = record { rises = both_rise; covers = rw (start_new c (omega arith), ← ht.covers) }

  -- a slot of the first part is in the run it was in
  pub find_old : (i : ℕ) → i < l → first_above f i 0 (p + c) ≡ first_above d i 0 p
  find_old i q =
      let h = found d p i (omega (arith, hd.covers)) in
      let r = first_above d i 0 p in
      find_is f (p + c) both_rise r i
      (record { is_run_lem = omega (arith, h.is_run_lem); above = rw (start_old r (omega (arith, h.is_run_lem))) h.above; below = rw (old r h.is_run_lem) h.below })

  -- one of the second part is in its run, behind those of the first
  pub find_new : (i : ℕ) → i < n → first_above f (l + i) 0 (p + c) ≡ p + first_above t i 0 c
  find_new i q =
      let h = found t c i (omega (arith, ht.covers)) in
      let r = first_above t i 0 c in
      find_is f (p + c) both_rise (p + r) (l + i)
      (record { is_run_lem = omega (arith, h.is_run_lem); above = rw (start_new r (omega (arith, h.is_run_lem))) (omega (arith, h.above)); below = rw (new r h.is_run_lem) (omega (arith, h.below)) })

-- ---- a copied stretch: the slots a .. a + n - 1 of c runs

module _ (e : ℕ → ℕ) (c a n : ℕ) where
  -- its first and its last run, and how many there are
  abbrev pub First : ℕ
  First = first_above e a 0 c

  abbrev pub Last : ℕ
  Last = first_above e (a + n - 1) 0 c

  abbrev pub Many : ℕ
  Many = suc Last - First

  -- the end of its run k, counted from a on
  abbrev pub clip : ℕ → ℕ
  clip k = min (e (First + k)) (a + n) - a

  module _ (rises : (r : ℕ) → r < c → start_of e r < e r) (some : 0 < n) (within : a + n ≤ start_of e c) where
    first_holds : Holds e c First a
    first_holds = found e c a (omega arith)

    last_holds : Holds e c Last (a + n - 1)
    last_holds = found e c (a + n - 1) (omega arith)

    pub in_order_lem : First ≤ Last
    in_order_lem = find_le e c rises a (a + n - 1) (omega arith) (omega arith)

    pub last_run : Last < c
    last_run = last_holds.is_run_lem

    -- its runs but the last end within it, and none ends before it begins
    inner_end : (k : ℕ) → First + k < Last → e (First + k) < a + n
    inner_end k q = omega (arith, start_le e c rises (suc (First + k)) Last q (omega (arith, last_run)), last_holds.above)

    past_start : (k : ℕ) → First + k ≤ Last → a < e (First + k)
    past_start k q = omega (arith, start_le e c rises (suc First) (suc (First + k)) (omega arith) (omega (arith, last_run)), first_holds.below)

    clip_rises : (k : ℕ) → k < Many → start_of clip k < clip k
    clip_rises zero q = omega (arith, past_start 0 (omega (arith, in_order_lem)))
    clip_rises (suc k) q =
        rw add-suc
        (omega (arith, past_start k (omega arith), inner_end k (omega arith), rw add-suc at (rises (First + suc k) (omega (arith, last_run)))))

    clip_covers : n ≡ start_of clip Many
    clip_covers =
        let z : Many ≡ suc (Last - First) = omega (arith, in_order_lem) in
        let y : First + (Last - First) ≡ Last = omega (arith, in_order_lem) in
        rw (z, y) (omega (arith, last_holds.below))

    -- the ends of its runs
    pub clip_ends : Ends clip Many n
    clip_ends = record { rises = clip_rises; covers = clip_covers }

    -- its slot i is in the run that the source's slot a + i is in
    pub clip_find : (i : ℕ) → i < n → First + first_above clip i 0 Many ≡ first_above e (a + i) 0 c
    clip_find i q =
        let h = found clip Many i (omega (arith, clip_covers)) in
        let s = first_above clip i 0 Many in
        sym (find_is e c rises (First + s) (a + i)
        (record { is_run_lem = omega (arith, h.is_run_lem, last_run); above = go s h.above; below = omega (arith, h.below) }))
      where
        go : (s : ℕ) → start_of clip s ≤ i → start_of e (First + s) ≤ a + i
        go zero z = rw (add-zero First) (omega (arith, first_holds.above))
        go (suc s) z = rw add-suc (omega arith)
