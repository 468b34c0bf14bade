-- THE PROMISES of the calls over whole-number columns, as theorems over what they answer. Assumes nothing.
use Rattle.std.specs.Prelude.{Ok, Err, Result}
use Rattle.std.proofs.Common.{◌≡◌, ℕ, zero, suc, ◌+◌, ◌-◌, ◌<◌, ◌≤◌, Bool, true, false, cond, ◌&&◌, eqb, List, ◌++◌, pos, ◌+ℤ◌, sym, refl, ap, ◌∙◌, subst, ap₂, arith, eq-eqb, eqb-true}
use mathlib.Core.Bool.{false≢true}
use borrow.Author.Tests.{eqb-false}
use Rattle.columnar.specs.Row.{Row, seg}
use Rattle.aggregates.specs.fractions.Lowest.{fraction_of, Lowest}
use Rattle.aggregates.proofs.fractions.Terms as terms
use Rattle.aggregates.specs.tally.Sums.{count_of, sum_of, fits}
use Rattle.aggregates.proofs.tally.Integers.{counts_add, sums_add}
use Rattle.aggregates.specs.declared.MeanReport.{MeanReport}
use Rattle.aggregates.specs.declared.RatioReport.{RatioReport}
use Rattle.aggregates.specs.Report.{report_of, mean_by, mean_of, both_rows, is_zero, ratio_of, ratio_by, ratio_rows}

mean_by_lem : {a b : MeanReport} → ◌≡◌ {A = Result MeanReport ℕ} (Ok a) (Ok b) → a ≡ b
mean_by_lem e = cc

ratio_by_lem : {a b : RatioReport} → ◌≡◌ {A = Result RatioReport ℕ} (Ok a) (Ok b) → a ≡ b
ratio_by_lem e = cc

-- ---- what an answer holds

-- an answered mean has the rows' count and sum, a count above zero, and a sum that 64 bits hold
pub record Answered (rows : List Row) (r : MeanReport) : Type 0 where
  pub count : r.count ≡ count_of rows
  pub sum : r.sum ≡ sum_of rows
  pub some : count_of rows ≡ 0 → ⊥
  pub holds : fits (sum_of rows) ≡ true
  pub is : r ≡ report_of (count_of rows) (sum_of rows)

pub answered : (rows : List Row) (r : MeanReport) → mean_of rows ≡ Ok r → Answered rows r
unfolding mean_by
answered rows r e = go (fits (sum_of rows)) refl (eqb (count_of rows) 0) refl e
  where
    go : (b : Bool) → fits (sum_of rows) ≡ b → (d : Bool) → eqb (count_of rows) 0 ≡ d
        → cond {A = Result MeanReport ℕ} b (cond d (Err 16) (Ok (report_of (count_of rows) (sum_of rows)))) (Err 15) ≡ Ok r → Answered rows r
    go true p false q f =
        let g = sym (mean_by_lem f) in
        record { count = ap (λ y. y.count) g; sum = ap (λ y. y.sum) g; some = eqb-false (count_of rows) 0 q; holds = p; is = g }
    go true p true q f = let z : ◌≡◌ {A = ℕ} 0 1 = cc in absurd (omega arith)
    go false p d q f = let z : ◌≡◌ {A = ℕ} 0 1 = cc in absurd (omega arith)

pub record Rated (f g : ℕ → Row) (a n : ℕ) (r : RatioReport) : Type 0 where
  pub count : r.count ≡ count_of (seg (both_rows f g) a n)
  pub first : r.first ≡ sum_of (seg (both_rows f g) a n)
  pub second : r.second ≡ sum_of (seg (both_rows g f) a n)

pub rated : (f g : ℕ → Row) (a n : ℕ) (r : RatioReport) → ratio_rows f g a n ≡ Ok r → Rated f g a n r
unfolding ratio_by
rated f g a n r e = go (fits (sum_of (seg (both_rows f g) a n)) && fits (sum_of (seg (both_rows g f) a n))) (is_zero (sum_of (seg (both_rows g f) a n))) e
  where
    go : (b d : Bool) → cond {A = Result RatioReport ℕ} b (cond d (Err 16) (Ok (ratio_of (count_of (seg (both_rows f g) a n)) (sum_of (seg (both_rows f g) a n)) (sum_of (seg (both_rows g f) a n))))) (Err 15) ≡ Ok r → Rated f g a n r
    go true false q = let h = sym (ratio_by_lem q) in record { count = ap (λ y. y.count) h; first = ap (λ y. y.first) h; second = ap (λ y. y.second) h }
    go true true q = let z : ◌≡◌ {A = ℕ} 0 1 = cc in absurd (omega arith)
    go false d q = let z : ◌≡◌ {A = ℕ} 0 1 = cc in absurd (omega arith)

-- ---- EXACT: 15 exactly where the sum over the integers is outside −2^63 .. 2^63−1, whatever sums of first rows are

pub exact : (rows : List Row) → (mean_of rows ≡ Err 15 → fits (sum_of rows) ≡ false) × (fits (sum_of rows) ≡ false → mean_of rows ≡ Err 15)
unfolding mean_by
exact rows = (λ e. go (fits (sum_of rows)) (eqb (count_of rows) 0) e, λ h. rw h)
  where
    by : {a b : ℕ} → ◌≡◌ {A = Result MeanReport ℕ} (Err a) (Err b) → a ≡ b
    by e = cc

    go : (b d : Bool) → cond {A = Result MeanReport ℕ} b (cond d (Err 16) (Ok (report_of (count_of rows) (sum_of rows)))) (Err 15) ≡ Err 15 → b ≡ false
    go true true e = absurd (omega (arith, by e))
    go true false e = let z : ◌≡◌ {A = ℕ} 0 1 = cc in absurd (omega arith)
    go false d e = refl

-- ---- ZERO DENOMINATOR: 16 exactly where the sum is held and no row counts

pub zero_denominator : (rows : List Row) → (mean_of rows ≡ Err 16 → (fits (sum_of rows) ≡ true) × (count_of rows ≡ 0))
    × ((fits (sum_of rows) ≡ true) × (count_of rows ≡ 0) → mean_of rows ≡ Err 16)
unfolding mean_by
zero_denominator rows = (λ e. go (fits (sum_of rows)) refl (eqb (count_of rows) 0) refl e, λ h. rw (h.0, eq-eqb (count_of rows) 0 h.1))
  where
    by : {a b : ℕ} → ◌≡◌ {A = Result MeanReport ℕ} (Err a) (Err b) → a ≡ b
    by e = cc

    go : (b : Bool) → fits (sum_of rows) ≡ b → (d : Bool) → eqb (count_of rows) 0 ≡ d
        → cond {A = Result MeanReport ℕ} b (cond d (Err 16) (Ok (report_of (count_of rows) (sum_of rows)))) (Err 15) ≡ Err 16 → (fits (sum_of rows) ≡ true) × (count_of rows ≡ 0)
    go true p true q e = (p, eqb-true (count_of rows) 0 q)
    go true p false q e = let z : ◌≡◌ {A = ℕ} 0 1 = cc in absurd (omega arith)
    go false p d q e = absurd (omega (arith, by e))

-- ---- the same of two columns: 15 exactly where a total is outside, 16 exactly where both are held and the second is 0

module _ (f g : ℕ → Row) (a n : ℕ) where
  abbrev held : Bool
  held = fits (sum_of (seg (both_rows f g) a n)) && fits (sum_of (seg (both_rows g f) a n))

  abbrev none : Bool
  none = is_zero (sum_of (seg (both_rows g f) a n))

  abbrev report : RatioReport
  report = ratio_of (count_of (seg (both_rows f g) a n)) (sum_of (seg (both_rows f g) a n)) (sum_of (seg (both_rows g f) a n))

  refusals : {x y : ℕ} → ◌≡◌ {A = Result RatioReport ℕ} (Err x) (Err y) → x ≡ y
  refusals e = cc

  pub exact_both : (ratio_rows f g a n ≡ Err 15 → held ≡ false) × (held ≡ false → ratio_rows f g a n ≡ Err 15)
  unfolding ratio_by
  exact_both = (λ e. go held none e, λ h. rw h)
    where
      go : (b d : Bool) → cond {A = Result RatioReport ℕ} b (cond d (Err 16) (Ok report)) (Err 15) ≡ Err 15 → b ≡ false
      go true true e = absurd (omega (arith, refusals e))
      go true false e = let z : ◌≡◌ {A = ℕ} 0 1 = cc in absurd (omega arith)
      go false d e = refl

  pub zero_both : (ratio_rows f g a n ≡ Err 16 → (held ≡ true) × (none ≡ true)) × ((held ≡ true) × (none ≡ true) → ratio_rows f g a n ≡ Err 16)
  unfolding ratio_by
  zero_both = (λ e. go held none e, λ h. rw (h.0, h.1))
    where
      go : (b d : Bool) → cond {A = Result RatioReport ℕ} b (cond d (Err 16) (Ok report)) (Err 15) ≡ Err 16 → (b ≡ true) × (d ≡ true)
      go true true e = (refl, refl)
      go true false e = let z : ◌≡◌ {A = ℕ} 0 1 = cc in absurd (omega arith)
      go false d e = absurd (omega (arith, refusals e))

  -- an answered ratio's second total is not 0 ..
  some_second : (r : RatioReport) → ratio_rows f g a n ≡ Ok r → none ≡ false
  unfolding ratio_by
  some_second r e = go held none e
    where
      go : (b d : Bool) → cond {A = Result RatioReport ℕ} b (cond d (Err 16) (Ok report)) (Err 15) ≡ Ok r → d ≡ false
      go true false q = refl
      go true true q = let z : ◌≡◌ {A = ℕ} 0 1 = cc in absurd (omega arith)
      go false d q = let z : ◌≡◌ {A = ℕ} 0 1 = cc in absurd (omega arith)

  -- .. and it is the first total over the second in lowest terms
  pub lowest_both : (r : RatioReport) → ratio_rows f g a n ≡ Ok r → Lowest r.first r.second (fraction_of r.first r.second)
  lowest_both r e =
      terms.lowest r.first r.second
      (λ q. false≢true (sym (some_second r e) ∙ ap is_zero (sym (rated f g a n r e).second ∙ q)))

-- ---- LOWEST: an answered mean is the sum over the count in lowest terms

pub lowest : (rows : List Row) (r : MeanReport) → mean_of rows ≡ Ok r → Lowest r.sum (pos r.count) (fraction_of r.sum (pos r.count))
lowest rows r e = terms.lowest r.sum (pos r.count) (λ q. (answered rows r e).some (sym (answered rows r e).count ∙ by q))
  where
    by : {a b : ℕ} → pos a ≡ pos b → a ≡ b
    by e = cc

-- ---- CUT: where a range and both parts of a cut are answered, counts and sums add up

seg_add : (f : ℕ → Row) (a n k : ℕ) → seg f a (n + k) ≡ seg f a n ++ seg f (a + n) k
seg_add f a zero k = let e : zero + k ≡ k = omega arith in let d : a + zero ≡ a = omega arith in rw (e, d)
seg_add f a (suc n) k =
    let e : suc n + k ≡ suc (n + k) = omega arith in
    let d : suc a + n ≡ a + suc n = omega arith in
    ap (seg f a) e ∙ ap (λ l. mathlib.Core.List.◌∷◌ (f a) l) (seg_add f (suc a) n k ∙ ap (λ i. seg f (suc a) n ++ seg f i k) d)

cut_rows : (f : ℕ → Row) (a b c : ℕ) → a ≤ b → b ≤ c → seg f a (c - a) ≡ seg f a (b - a) ++ seg f b (c - b)
cut_rows f a b c h k =
    let e : c - a ≡ b - a + (c - b) = omega arith in
    let d : a + (b - a) ≡ b = omega arith in
    ap (seg f a) e ∙ seg_add f a (b - a) (c - b) ∙ ap (λ i. seg f a (b - a) ++ seg f i (c - b)) d

pub cut : (f : ℕ → Row) (a b c : ℕ) → a ≤ b → b ≤ c → (whole left right : MeanReport)
    → mean_of (seg f a (c - a)) ≡ Ok whole → mean_of (seg f a (b - a)) ≡ Ok left → mean_of (seg f b (c - b)) ≡ Ok right
    → (whole.count ≡ left.count + right.count) × (whole.sum ≡ left.sum +ℤ right.sum)
cut f a b c h k whole left right e1 e2 e3 =
    let w = answered (seg f a (c - a)) whole e1 in
    let l = answered (seg f a (b - a)) left e2 in
    let r = answered (seg f b (c - b)) right e3 in
    let rows = cut_rows f a b c h k in (
      w.count ∙ ap count_of rows ∙ counts_add (seg f a (b - a)) (seg f b (c - b)) ∙ sym (ap₂ ◌+◌ l.count r.count),
      w.sum ∙ ap sum_of rows ∙ sums_add (seg f a (b - a)) (seg f b (c - b)) ∙ sym (ap₂ ◌+ℤ◌ l.sum r.sum),
    )

pub cut_both : (f g : ℕ → Row) (a b c : ℕ) → a ≤ b → b ≤ c → (whole left right : RatioReport)
    → ratio_rows f g a (c - a) ≡ Ok whole → ratio_rows f g a (b - a) ≡ Ok left → ratio_rows f g b (c - b) ≡ Ok right
    → (whole.count ≡ left.count + right.count) × (whole.first ≡ left.first +ℤ right.first) × (whole.second ≡ left.second +ℤ right.second)
cut_both f g a b c h k whole left right e1 e2 e3 =
    let w = rated f g a (c - a) whole e1 in
    let l = rated f g a (b - a) left e2 in
    let r = rated f g b (c - b) right e3 in
    let rows = cut_rows (both_rows f g) a b c h k in
    let others = cut_rows (both_rows g f) a b c h k in (
      w.count ∙ ap count_of rows ∙ counts_add (seg (both_rows f g) a (b - a)) (seg (both_rows f g) b (c - b)) ∙ sym (ap₂ ◌+◌ l.count r.count),
      w.first ∙ ap sum_of rows ∙ sums_add (seg (both_rows f g) a (b - a)) (seg (both_rows f g) b (c - b)) ∙ sym (ap₂ ◌+ℤ◌ l.first r.first),
      w.second ∙ ap sum_of others ∙ sums_add (seg (both_rows g f) a (b - a)) (seg (both_rows g f) b (c - b)) ∙ sym (ap₂ ◌+ℤ◌ l.second r.second),
    )

-- ---- RUN ENDS TOO: the answer hangs on the rows alone, so that of runs is that of the same rows stored one by one

same_seg : (f g : ℕ → Row) (a n : ℕ) → ((j : ℕ) → j < n → f (a + j) ≡ g (a + j)) → seg f a n ≡ seg g a n
same_seg f g a zero h = refl
same_seg f g a (suc n) h =
    let e : a + 0 ≡ a = omega arith in
    ap₂ (λ x l. mathlib.Core.List.◌∷◌ x l) (subst (λ i. f i ≡ g i) e (h 0 (omega arith)))
    (same_seg f g (suc a) n (λ j l. let d : a + suc j ≡ suc a + j = omega arith in subst (λ i. f i ≡ g i) d (h (suc j) (omega arith))))

pub run_ends_too : (f g : ℕ → Row) (a n : ℕ) → ((j : ℕ) → j < n → f (a + j) ≡ g (a + j)) → mean_of (seg f a n) ≡ mean_of (seg g a n)
run_ends_too f g a n h = ap mean_of (same_seg f g a n h)
