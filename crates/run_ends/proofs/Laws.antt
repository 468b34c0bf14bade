-- What the functions answer, over the width: each width's proof cites these. Assumes nothing.
use mathlib.Core.Path.{◌≡◌, refl, sym, ap, ap₂, ◌∙◌}
use mathlib.Core.Bool.{Bool, true, false, cond}
use Prim.Native.Nat.{ℕ, zero, suc, ◌+◌, ◌*◌, ◌-◌, ◌≤◌, ◌<◌}
use native.Mathlib.Nat.{mul-zero, mul-suc}
use native.Mathlib.Numerals.{add-one}
use native.Mathlib.Omega.{arith}
use mathlib.Core.List.{List}
use lib.ListN.{length, length-append}
use lib.Dec.{ltb, leb}
use borrow.Author.Tests.{ltb-true, ltb-false, leb-true, lt-ltb, le-ltb}
use Rattle.number.specs.Number.{entry, encode, splice}
use Rattle.number.proofs.Laws.{length_encode, splice_splice}
use Rattle.run_ends.specs.Lookup.{first_above, bisect, left_of, found_at, found_run, format_run, Climbs, Rising, last_end, span_of, spanned, shortened, runs_of, runs_between}
use Rattle.run_ends.specs.Clip.{clip, clipped}
use Rattle.run_ends.specs.declared.PhysicalRun.{PhysicalRun}
use Rattle.std.specs.Prelude.{Option, Some, None}
use Rattle.run_ends.specs.declared.RunRow.{RunRow}
use Rattle.run_ends.specs.declared.RunRange.{RunRange}
use Rattle.run_ends.proofs.Search.{First, first_is, first_of_lem, quarter_first}

module _ (w : ℕ) (s : List ℕ) (from n : ℕ) where
  -- where the ends rise, the search by quarters answers the format's run
  pub bisect_first : (x : ℕ) → Rising w s from n → bisect w s from n x ≡ first_above w s from n x
  bisect_first x h = quarter_first (entry w s from) n x h.climbs

  pub last_at : 0 < n → entry w s from (n - 1) ≡ last_end w s from n
  last_at h = go n h
    where
      go : (k : ℕ) → 0 < k → entry w s from (k - 1) ≡ last_end w s from k
      go zero g = absurd (omega arith)
      go (suc k) g = let e : suc k - 1 ≡ k = omega arith in rw e

  -- .. and so does a lookup by it
  pub found_format : (last x : ℕ) → Rising w s from n → found_run w s from n last x ≡ format_run w s from n last x
  found_format last x h = ap (found_at w s from n last x) (bisect_first x h)

  module _ (start end : ℕ) (c : Climbs (entry w s from) n) where
    abbrev E : ℕ → ℕ
    E = entry w s from

    abbrev A : ℕ
    A = first_above w s from n start

    -- where the rows are all left in the run of the first, the last one stands in it
    same_run : start < end → A < n → end ≤ E A → first_above w s from n (end - 1) ≡ A
    same_run l h g =
        let f : First E n start A = first_is E n start in
        first_of_lem E n (end - 1) (record { within = f.within; before = λ k m. omega (arith, f.before k m); above = λ _. omega arith })

    one_run : Some (record { first = record { 0 = A }; count = 1 }) ≡ span_of (record { 0 = A }) (record { 0 = A })
    one_run = let z : A - A + 1 ≡ 1 = omega arith in rw (le-ltb A A (omega arith), z)

    -- where the ends rise, the search that is not made would have answered the same
    pub short_cut : runs_of (format_run w s from n end) start end ≡ runs_between (format_run w s from n end) start end
    short_cut = go (ltb start end) refl (ltb A n) refl (ltb start (E A)) refl (leb (end - start) (left_of (E A) end start)) refl
      where
        go : (a : Bool) → ltb start end ≡ a → (b : Bool) → ltb A n ≡ b → (t : Bool) → ltb start (E A) ≡ t → (u : Bool) → leb (end - start) (left_of (E A) end start) ≡ u
            → cond a (shortened (end - start) (cond b (cond t (Some (record { run = record { 0 = A }; left = left_of (E A) end start })) None) None) (format_run w s from n end (end - 1))) None
            ≡ cond a (spanned (cond b (cond t (Some (record { run = record { 0 = A }; left = left_of (E A) end start })) None) None) (format_run w s from n end (end - 1))) None
        go false p b q t r u v = refl
        go true p false q t r u v = refl
        go true p true q false r u v = refl
        go true p true q true r false v = rw v
        go true p true q true r true v =
            let l : start < end = ltb-true _ _ p in
            let h : A < n = ltb-true _ _ q in
            let m : start < E A = ltb-true _ _ r in
            let y : end - start ≤ left_of (E A) end start = leb-true _ _ v in
            let g : end ≤ E A = omega arith in
            let k : end - 1 < E A = omega arith in
            rw (v, same_run l h g, lt-ltb A n h, lt-ltb (end - 1) (E A) k) one_run

  -- .. and the runs of a range
  pub runs_format : (start end : ℕ) → Rising w s from n → runs_of (found_run w s from n end) start end ≡ runs_between (format_run w s from n end) start end
  runs_format start end h =
      ap₂ (λ (j k : ℕ). cond (ltb start end) (shortened (end - start) (found_at w s from n end start j) (found_at w s from n end (end - 1) k)) None) (bisect_first start h) (bisect_first (end - 1) h)
      ∙ short_cut start end h.climbs

  found_below : (last x k : ℕ) {a : RunRow} → Some a ≡ found_at w s from n last x k → a.run.0 < n
  found_below last x k {a} e = go (ltb k n) refl (ltb x (entry w s from k)) e
    where
      go : (t : Bool) → ltb k n ≡ t → (u : Bool) → Some a ≡ cond t (cond u (Some (record { run = record { 0 = k }; left = left_of (entry w s from k) last x })) None) None → a.run.0 < n
      go true p true q = let g : a ≡ record { run = record { 0 = k }; left = left_of (entry w s from k) last x } = cc in rw g (ltb-true k n p)
      go true p false q = absurd (let z : ◌≡◌ {A = ℕ} 0 1 = cc in omega arith)
      go false p u q = absurd (let z : ◌≡◌ {A = ℕ} 0 1 = cc in omega arith)

-- ---- what a caller learns from an answer

-- the m runs from run a on of a range that is not empty lie among the n
pub record Within (n start end a m : ℕ) : Type 0 where
  pub rows : start < end
  pub runs : 0 < m
  pub within : a + m ≤ n

module _ (w : ℕ) (s : List ℕ) (from n start end : ℕ) (look : ℕ → ℕ) where
  pub range_within : {r : Option RunRange} {a : RunRange} → r ≡ runs_of (λ x. found_at w s from n end x (look x)) start end → r ≡ Some a
      → Within n start end a.first.0 a.count
  range_within {r} {a} e f = go (ltb start end) refl (sym e ∙ f)
    where
      no : {x : Option RunRange} → x ≡ Some a → x ≡ None → Within n start end a.first.0 a.count
      no p q = absurd (let z : ◌≡◌ {A = ℕ} 0 1 = cc in omega arith)

      spans : (j k : PhysicalRun) → start < end → k.0 < n → (t : Bool) → ltb k.0 j.0 ≡ t
          → cond t None (Some (record { first = j; count = k.0 - j.0 + 1 })) ≡ Some a → Within n start end a.first.0 a.count
      spans j k l h true p q = no q refl
      spans j k l h false p q =
          let b : j.0 ≤ k.0 = ltb-false k.0 j.0 p in
          let u : a ≡ record { first = j; count = k.0 - j.0 + 1 } = cc in
          rw u (record { rows = l; runs = omega arith; within = omega arith })

      both : (j k : Option RunRow) → j ≡ found_at w s from n end start (look start) → k ≡ found_at w s from n end (end - 1) (look (end - 1)) → start < end
          → spanned j k ≡ Some a → Within n start end a.first.0 a.count
      both (Some j) (Some k) p g l q = spans j.run k.run l (found_below w s from n end (end - 1) (look (end - 1)) g) (ltb k.run.0 j.run.0) refl q
      both (Some j) None p g l q = no q refl
      both None k p g l q = no q refl

      short : (j k : Option RunRow) → j ≡ found_at w s from n end start (look start) → k ≡ found_at w s from n end (end - 1) (look (end - 1)) → start < end
          → shortened (end - start) j k ≡ Some a → Within n start end a.first.0 a.count
      short None k p g l q = no q refl
      short (Some j) k p g l q = cut (leb (end - start) j.left) q
        where
          cut : (t : Bool) → cond t (Some (record { first = j.run; count = 1 })) (spanned (Some j) k) ≡ Some a → Within n start end a.first.0 a.count
          cut true z =
              let u : a ≡ record { first = j.run; count = 1 } = cc in
              let h : j.run.0 < n = found_below w s from n end start (look start) p in
              rw u (record { rows = l; runs = omega arith; within = omega arith })
          cut false z = both (Some j) k p g l z

      go : (t : Bool) → ltb start end ≡ t
          → cond t (shortened (end - start) (found_at w s from n end start (look start)) (found_at w s from n end (end - 1) (look (end - 1)))) None ≡ Some a
          → Within n start end a.first.0 a.count
      go true p q = short (found_at w s from n end start (look start)) (found_at w s from n end (end - 1) (look (end - 1))) refl refl (ltb-true start end p) q
      go false p q = no q refl

-- ---- clipped run ends

module _ (w : ℕ) (s : List ℕ) (from start end last : ℕ) where
  pub length_clipped : (m : ℕ) → length (clipped w s from m start end last) ≡ w * m
  unfolding clipped
  length_clipped zero = sym (mul-zero w)
  length_clipped (suc m) = simp (length-append, length_clipped m, length_encode, mul-suc)

  -- one more run end after the first k
  pub clipped_step : (room : List ℕ) (at k : ℕ) → at + w * (k + 1) ≤ length room
      → splice (at + w * k) (encode w (last + clip (entry w s from k) start end)) (splice at (clipped w s from k start end last) room)
      ≡ splice at (clipped w s from (k + 1) start end last) room
  unfolding clipped
  clipped_step room at k h =
      let e : length (clipped w s from k start end last) ≡ w * k = length_clipped k in
      let g : w * (k + 1) ≡ w * k + w = rw (add-one, mul-suc) in
      rw add-one
      (rw e at (splice_splice at (clipped w s from k start end last) (encode w (last + clip (entry w s from k) start end)) room (simp (e, length_encode) (omega arith))))
