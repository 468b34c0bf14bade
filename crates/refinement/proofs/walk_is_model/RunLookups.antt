-- Runs found by the search and clipped ends, as the model says them. Assumes nothing.
use mathlib.Core.Path.{◌≡◌, refl, sym, ap, subst, ◌∙◌}
use mathlib.Core.Bool.{Bool, true, false, cond}
use mathlib.Core.List.{List, ◌++◌, append-nil, append_assoc}
use Prim.Native.Nat.{ℕ, zero, suc, ◌+◌, ◌-◌, ◌≤◌, ◌<◌, min}
use native.Mathlib.Nat.{add-zero, zero-add}
use native.Mathlib.Numerals.{add-one}
use native.Mathlib.Omega.{arith}
use lib.Dec.{ltb}
use borrow.Author.Tests.{lt-ltb, le-ltb}
use Rattle.number.specs.Number.{entry, encode}
use Rattle.columnar.specs.RunEnd.{first_above, start_of}
use Rattle.run_ends.specs.Lookup.{scan, first, quarter, Climbs, found_at, found_run, format_run, spanned, runs_of, runs_between, shortened}
use Rattle.std.specs.Prelude.{Some}
use Rattle.run_ends.proofs.Search.{first_is, quarter_first}
use Rattle.run_ends.proofs.Laws.{short_cut}
use Rattle.model.proofs.Ends.{First, Last, Many, in_order_lem, last_run}
use Rattle.model.proofs.Names.{clipped}

-- ---- ends that rise

-- no more runs than rows
pub many_rows : (e : ℕ → ℕ) (c : ℕ) → ((r : ℕ) → r < c → start_of e r < e r) → c ≤ start_of e c
many_rows e zero h = omega arith
many_rows e (suc c) h = omega (arith, many_rows e c (λ r q. h r (omega arith)), h c (omega arith))

module _ (e f : ℕ → ℕ) where
  scan_first : (x n i : ℕ) → ((k : ℕ) → k < n → e (i + k) ≡ f (i + k)) → scan e x n i ≡ first_above f x i n
  unfolding scan
  scan_first x zero i h = refl
  scan_first x (suc n) i h =
      rw (rw add-zero at (h 0 (omega arith)))
      (go (ltb x (f i)) (scan_first x n (suc i) (λ k q. let z : suc i + k ≡ i + suc k = omega arith in rw z (h (suc k) (omega arith)))))
    where
      go : (b : Bool) → scan e x n (suc i) ≡ first_above f x (suc i) n → ◌≡◌ {A = ℕ} (cond b i (scan e x n (suc i))) (elim b [ true ↦ i | false ↦ first_above f x (suc i) n ])
      go true z = refl
      go false z = z

  module _ (n : ℕ) (same : (k : ℕ) → k < n → e k ≡ f k) (rises : (r : ℕ) → r < n → start_of f r < f r) where
    climbs : Climbs e n
    climbs =
        record {
          start = λ q. rw (same 0 q) (rises 0 q);
          rises = λ k q. rw (same k (omega arith), same (k + 1) q, add-one) (rises (suc k) (omega arith));
        }

    -- the first run above the row, as the format says it
    pub first_run_lem : (x : ℕ) → first e n x ≡ first_above f x 0 n
    first_run_lem x = scan_first x n 0 (λ k q. rw zero-add (same k q))

    -- the search answers it
    pub search_is : (x : ℕ) → quarter e x n 0 n ≡ first e n x
    search_is x = quarter_first e n x climbs

    pub rising : Climbs e n
    rising = climbs

-- ---- the runs of a range

module _ (w : ℕ) (s : List ℕ) (from n last : ℕ) where
  spans : (j k x y : ℕ) → j ≤ k → k < n → x < entry w s from j → y < entry w s from k
      → spanned (found_at w s from n last x j) (found_at w s from n last y k) ≡ Some (record { first = record { 0 = j }; count = suc k - j })
  spans j k x y h q a b =
      rw (lt-ltb j n (omega arith), lt-ltb x (entry w s from j) a, lt-ltb k n q, lt-ltb y (entry w s from k) b, le-ltb k j h)
      (let z : k - j + 1 ≡ suc k - j = omega arith in rw z)

pub runs_are : (w : ℕ) (s : List ℕ) (from n : ℕ) (f : ℕ → ℕ) (a c : ℕ) → ((k : ℕ) → k < n → entry w s from k ≡ f k) → ((r : ℕ) → r < n → start_of f r < f r) → 0 < c → a + c ≤ start_of f n
    → runs_of (found_run w s from n (a + c)) a (a + c) ≡ Some (record { first = record { 0 = First f n a c }; count = Many f n a c })
runs_are w s from n f a c same rises some within =
    let e = entry w s from in
    let go : (x : ℕ) → first e n x ≡ first_above f x 0 n = first_run_lem e f n same rises in
    let m : First f n a c ≤ Last f n a c = in_order_lem f n a c rises some within in
    let l : Last f n a c < n = last_run f n a c rises some within in
    let above : (x : ℕ) → first_above f x 0 n < n → x < e (first_above f x 0 n) = λ x h. subst (λ (k : ℕ). k < n → x < e k) (go x) (first_is e n x).above h in
    rw (search_is e f n same rises a, search_is e f n same rises (a + c - 1))
    (short_cut w s from n a (a + c) (rising e f n same rises)
    ∙ rw (lt-ltb a (a + c) (omega arith), go a, go (a + c - 1))
    (spans w s from n (a + c) (First f n a c) (Last f n a c) a (a + c - 1) m l (above a (omega arith)) (above (a + c - 1) l)))

-- ---- clipped ends

module _ (w : ℕ) (e : ℕ → ℕ) (a b last : ℕ) where
  clipped_last : (k n : ℕ) → clipped w e a b last k (suc n) ≡ clipped w e a b last k n ++ encode w (last + (min (e (k + n)) b - a))
  clipped_last k zero = rw (add-zero k) (append-nil _)
  clipped_last k (suc n) =
      let z : suc k + n ≡ k + suc n = omega arith in
      rw (clipped_last (suc k) n, z) (sym (append_assoc (encode w (last + (min (e k) b - a))) (clipped w e a b last (suc k) n) (encode w (last + (min (e (k + suc n)) b - a)))))

  -- the ends that stand in bytes, one behind the other
  pub clipped_is : (s : List ℕ) (from k m : ℕ) → ((j : ℕ) → j < m → entry w s from j ≡ e (k + j))
      → Rattle.run_ends.specs.Clip.clipped w s from m a b last ≡ clipped w e a b last k m
  unfolding Rattle.run_ends.specs.Clip.clipped
  clipped_is s from k zero h = refl
  clipped_is s from k (suc m) h = rw (clipped_is s from k m (λ j q. h j (omega arith)), h m (omega arith)) (sym (clipped_last k m))
