-- Rows of a destination after a copy: the earlier ones keep their run, and each new one has the run of its source row. Assumes nothing.
use mathlib.Core.Path.{◌≡◌, refl, ap, ◌∙◌}
use mathlib.Core.Bool.{Bool, true, false, cond}
use Prim.Native.Nat.{ℕ, ◌+◌, ◌-◌, ◌≤◌, ◌<◌}
use native.Mathlib.Nat.{add-zero}
use native.Mathlib.Omega.{arith}
use lib.Dec.{ltb}
use borrow.Author.Tests.{ltb-true, ltb-false, lt-ltb, le-ltb}
use Rattle.run_ends.specs.Lookup.{first, Climbs, Covers}
use Rattle.run_ends.specs.Clip.{clipped_end, followed, Ending}
use Rattle.run_ends.proofs.Search.{First, first_is, first_of_lem, climbs_lt, climbs_le, covers_lt}

-- ---- run ends behind others

module _ (d : ℕ → ℕ) (p : ℕ) (g : ℕ → ℕ) where
  followed_low : (k : ℕ) → k < p → followed d p g k ≡ d k
  followed_low k h = rw (lt-ltb k p h)

  followed_high : (k : ℕ) → p ≤ k → followed d p g k ≡ g (k - p)
  followed_high k h = rw (le-ltb k p h)

  followed_at : (r : ℕ) → followed d p g (p + r) ≡ g r
  followed_at r = let e : p + r - p ≡ r = omega arith in followed_high (p + r) (omega arith) ∙ ap g e

pub ending_le : {d : ℕ → ℕ} {p last : ℕ} → Ending d p last → (k : ℕ) → k < p → d k ≤ last
ending_le {d} {p} v k h = omega (arith, v.ends (omega arith), climbs_le v.climbs k (p - 1) (omega arith) (omega arith))

module _ (d : ℕ → ℕ) (p last : ℕ) (v : Ending d p last) (g : ℕ → ℕ) (m : ℕ) where
  -- a row from `last` on has its run among those behind
  pub behind_first : (x r : ℕ) → last ≤ x → First g m x r → First (followed d p g) (p + m) x (p + r)
  behind_first x r h f = record {
    within = omega (arith, f.within);
    before = λ k l. go k l (ltb k p) refl;
    above = λ l. rw (followed_at d p g r) (f.above (omega arith));
  }
    where
      go : (k : ℕ) → k < p + r → (t : Bool) → ltb k p ≡ t → cond t (d k) (g (k - p)) ≤ x
      go k l true q = omega (arith, ending_le v k (ltb-true k p q))
      go k l false q = let u : p ≤ k = ltb-false k p q in f.before (k - p) (omega arith)

  -- a row below `last` keeps its run
  pub kept_first : (x : ℕ) → x < last → First (followed d p g) (p + m) x (first d p x)
  kept_first x h =
      let f : First d p x (first d p x) = first_is d p x in
      let n : p ≡ 0 → ⊥ = λ q. omega (arith, v.none q) in
      let b : p ≤ first d p x → ⊥ = λ q. omega (arith, v.ends (omega arith), f.before (p - 1) (omega arith)) in
      record {
        within = omega (arith, f.within);
        before = λ k l. rw (followed_low d p g k (omega arith)) (f.before k l);
        above = λ l. rw (followed_low d p g (first d p x) (omega arith)) (f.above (omega arith));
      }

  pub first_behind : (x : ℕ) → last ≤ x → first (followed d p g) (p + m) x ≡ p + first g m x
  first_behind x h = first_of_lem (followed d p g) (p + m) x (behind_first x (first g m x) h (first_is g m x))

  pub first_kept : (x : ℕ) → x < last → first (followed d p g) (p + m) x ≡ first d p x
  first_kept x h = first_of_lem (followed d p g) (p + m) x (kept_first x h)

  -- the run ends rise on, to the last of those behind
  pub followed_ending : (end : ℕ) → 0 < m → last < g 0 → ((k : ℕ) → k + 1 < m → g k < g (k + 1)) → g (m - 1) ≡ end
      → Ending (followed d p g) (p + m) end
  followed_ending end h l r e = record {
    climbs = record { start = λ q. start (ltb 0 p) refl; rises = λ k q. rises k q (ltb k p) refl (ltb (k + 1) p) refl };
    none = λ q. absurd (omega arith);
    ends = λ q. let i : p + m - 1 - p ≡ m - 1 = omega arith in followed_high d p g (p + m - 1) (omega arith) ∙ ap g i ∙ e;
  }
    where
      start : (t : Bool) → ltb 0 p ≡ t → 1 ≤ cond t (d 0) (g (0 - p))
      start true q = v.climbs.start (ltb-true 0 p q)
      start false q =
          let u : p ≤ 0 = ltb-false 0 p q in
          let z : 0 - p ≡ 0 = omega arith in rw z (omega arith)

      rises : (k : ℕ) → k + 1 < p + m → (t : Bool) → ltb k p ≡ t → (u : Bool) → ltb (k + 1) p ≡ u
          → cond t (d k) (g (k - p)) < cond u (d (k + 1)) (g (k + 1 - p))
      rises k b true q true c = v.climbs.rises k (ltb-true (k + 1) p c)
      rises k b true q false c =
          let i : k < p = ltb-true k p q in
          let j : p ≤ k + 1 = ltb-false (k + 1) p c in
          let z : k + 1 - p ≡ 0 = omega arith in
          rw z (omega (arith, ending_le v k i))
      rises k b false q true c =
          let i : p ≤ k = ltb-false k p q in
          let j : k + 1 < p = ltb-true (k + 1) p c in absurd (omega arith)
      rises k b false q false c =
          let i : p ≤ k = ltb-false k p q in
          let z : k + 1 - p ≡ k - p + 1 = omega arith in
          rw z (r (k - p) (omega arith))

-- ---- a copy

module _ (e : ℕ → ℕ) (n start end last : ℕ) (c : Climbs e n) (l : start < end) (v : Covers e n end) where
  -- the first run of the range, and how many there are
  abbrev pub At : ℕ
  At = first e n start

  abbrev pub Count : ℕ
  Count = first e n (end - 1) - At + 1

  at_first : First e n start At
  at_first = first_is e n start

  at_last : First e n (end - 1) (first e n (end - 1))
  at_last = first_is e n (end - 1)

  last_reaches : end ≤ e (first e n (end - 1))
  last_reaches = omega (arith, at_last.above (covers_lt v (omega arith) at_last))

  -- the run of a row in the range lies among those of the range
  pub row_after : (i : ℕ) → At ≤ first e n (start + i)
  row_after i =
      let f : First e n (start + i) (first e n (start + i)) = first_is e n (start + i) in
      let p : first e n (start + i) < At → ⊥
      = λ h. omega (arith, at_first.before (first e n (start + i)) h, f.above (omega (arith, at_first.within))) in
      omega arith

  pub row_before : (i : ℕ) → start + i < end → first e n (start + i) ≤ first e n (end - 1)
  row_before i h =
      let f : First e n (start + i) (first e n (start + i)) = first_is e n (start + i) in
      let p : first e n (end - 1) < first e n (start + i) → ⊥
      = λ g. omega (arith, f.before (first e n (end - 1)) g, last_reaches) in
      omega arith

  -- the copy of a row has the copy of its run
  pub clipped_first : (i : ℕ) → start + i < end → First (clipped_end e At start end last) Count (last + i) (first e n (start + i) - At)
  clipped_first i h =
      let f : First e n (start + i) (first e n (start + i)) = first_is e n (start + i) in
      let u : At ≤ first e n (start + i) = row_after i in
      let z : At + (first e n (start + i) - At) ≡ first e n (start + i) = omega arith in
      record {
        within = omega (arith, row_before i h);
        before = λ k g. omega (arith, f.before (At + k) (omega arith));
        above = λ g. rw z (omega (arith, f.above (covers_lt v h f)));
      }

  first_last : At ≤ first e n (end - 1)
  first_last =
      let p : first e n (end - 1) < At → ⊥ = λ h. omega (arith, at_first.before (first e n (end - 1)) h, last_reaches) in omega arith

  starts : start < e At
  starts = at_first.above (covers_lt v l at_first)

  clipped_rises : (k : ℕ) → k + 1 < Count → clipped_end e At start end last k < clipped_end e At start end last (k + 1)
  clipped_rises k h =
      let b : first e n (end - 1) < n = covers_lt v (omega arith) at_last in
      omega
      (arith, first_last, starts, at_last.before (At + k) (omega arith), climbs_le c At (At + k) (omega arith) (omega arith), climbs_lt c (At + k) (At + (k + 1)) (omega arith) (omega arith))

  clipped_starts : last < clipped_end e At start end last 0
  clipped_starts = rw add-zero (omega (arith, starts))

  clipped_ends : clipped_end e At start end last (Count - 1) ≡ last + (end - start)
  clipped_ends =
      let z : At + (Count - 1) ≡ first e n (end - 1) = omega (arith, first_last) in rw z (omega (arith, last_reaches))

  module _ (d : ℕ → ℕ) (p : ℕ) (w : Ending d p last) where
    -- each new row has the copy of its source row's run
    pub row_new : (i : ℕ) → i < end - start
        → first (followed d p (clipped_end e At start end last)) (p + Count) (last + i) ≡ p + (first e n (start + i) - At)
    row_new i h =
        first_of_lem (followed d p (clipped_end e At start end last)) (p + Count) (last + i)
        (behind_first d p last w (clipped_end e At start end last) Count (last + i) (first e n (start + i) - At) (omega arith) (clipped_first i (omega arith)))

    -- each earlier row has the run that it had
    pub row_old : (x : ℕ) → x < last → first (followed d p (clipped_end e At start end last)) (p + Count) x ≡ first d p x
    row_old x h = first_kept d p last w (clipped_end e At start end last) Count x h

    -- the run ends rise to last + (end - start)
    pub copy_ending : Ending (followed d p (clipped_end e At start end last)) (p + Count) (last + (end - start))
    copy_ending =
        followed_ending d p last w (clipped_end e At start end last) Count (last + (end - start)) (omega arith) clipped_starts clipped_rises clipped_ends

-- ---- a nonempty null order: one run of n rows

module _ (d : ℕ → ℕ) (p last : ℕ) (w : Ending d p last) (n : ℕ) (h : 0 < n) where
  one_first : (i : ℕ) → i < n → First (λ k. last + n) 1 (last + i) 0
  one_first i g = record { within = omega arith; before = λ k q. absurd (omega arith); above = λ q. omega arith }

  pub null_new : (i : ℕ) → i < n → first (followed d p (λ k. last + n)) (p + 1) (last + i) ≡ p
  null_new i g =
      rw add-zero at
      (first_of_lem (followed d p (λ k. last + n)) (p + 1) (last + i) (behind_first d p last w (λ k. last + n) 1 (last + i) 0 (omega arith) (one_first i g)))

  pub null_old : (x : ℕ) → x < last → first (followed d p (λ k. last + n)) (p + 1) x ≡ first d p x
  null_old x g = first_kept d p last w (λ k. last + n) 1 x g

  pub null_ending : Ending (followed d p (λ k. last + n)) (p + 1) (last + n)
  null_ending = followed_ending d p last w (λ k. last + n) 1 (last + n) (omega arith) (omega arith) (λ k q. absurd (omega arith)) refl
