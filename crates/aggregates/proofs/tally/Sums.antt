-- A tally of cells, stretch by stretch, and the rows that the cells stand for. Assumes nothing.
use Rattle.std.proofs.Common.{◌≡◌, ℕ, zero, suc, ◌+◌, ◌-◌, ◌*◌, ◌<◌, ◌≤◌, pos, negsuc, ◌-ℤ◌, sym, refl, ap, ◌∙◌, subst, ap₂, le_trans, le_of_eq, mul-le-mul_right, mul_comm, add-mul, mul-le-mul_left, mul-zero, mul-suc, le_of_mul-le-mul_right, arith}
use Rattle.columnar.specs.Row.{Row, null, whole, single, double, bytes, list, union, seg}
use Rattle.aggregates.specs.declared.tally.Cell.{Cell}
use Rattle.aggregates.specs.declared.tally.Tally.{Tally}
use Rattle.aggregates.specs.tally.Sums.{count_in, count_of, sum_of}
use Rattle.aggregates.specs.tally.Cells.{cell_of, bits_of, below_of, value_of, tallied_by, sum_by, Tallied}
use Rattle.aggregates.proofs.tally.Integers.{rows_add, less}

-- ---- sums of cells

module _ (p : Cell → ℕ) (g : ℕ → Cell) where
  pub sums_add : (a n k : ℕ) → sum_by p g a (n + k) ≡ sum_by p g a n + sum_by p g (a + n) k
  sums_add a zero k =
      let e : zero + k ≡ k = omega arith in
      let d : a + zero ≡ a = omega arith in
      rw (e, d) (omega arith)
  sums_add a (suc n) k =
      let e : suc n + k ≡ suc (n + k) = omega arith in
      let d : suc a + n ≡ a + suc n = omega arith in
      ap (sum_by p g a) e ∙ omega (arith, sums_add (suc a) n k, ap (λ i. sum_by p g i k) d)

  -- cells that are all the same
  sums_same : (c : Cell) (a k : ℕ) → ((j : ℕ) → j < k → g (a + j) ≡ c) → sum_by p g a k ≡ p c * k
  sums_same c a zero h = sym (mul-zero (p c))
  sums_same c a (suc k) h =
      let e : a + 0 ≡ a = omega arith in
      let first : g a ≡ c = subst (λ i. g i ≡ c) e (h 0 (omega arith)) in
      let later : (j : ℕ) → j < k → g (suc a + j) ≡ c = λ j l. let d : a + suc j ≡ suc a + j = omega arith in subst (λ i. g i ≡ c) d (h (suc j) (omega arith)) in
      omega (arith, ap p first, sums_same c (suc a) k later, mul-suc (p c) k)

-- cells that are alike
sums_alike : (p : Cell → ℕ) (g h : ℕ → Cell) (a b k : ℕ) → ((j : ℕ) → j < k → g (a + j) ≡ h (b + j)) → sum_by p g a k ≡ sum_by p h b k
sums_alike p g h a b zero e = refl
sums_alike p g h a b (suc k) e =
    let z : a + 0 ≡ a = omega arith in
    let y : b + 0 ≡ b = omega arith in
    let first : g a ≡ h b = subst (λ i. g i ≡ h b) z (subst (λ i. g (a + 0) ≡ h i) y (e 0 (omega arith))) in
    let later : (j : ℕ) → j < k → g (suc a + j) ≡ h (suc b + j) = λ j l. let d : a + suc j ≡ suc a + j = omega arith in let f : b + suc j ≡ suc b + j = omega arith in subst (λ i. g i ≡ h (suc b + j)) d (subst (λ i. g (a + suc j) ≡ h i) f (e (suc j) (omega arith))) in
    ap₂ ◌+◌ (ap p first) (sums_alike p g h (suc a) (suc b) k later)

-- ---- halves

hi_by : (h l n k j : ℕ) → j ≤ k → 0 < k → h * k + l ≤ n * j → h ≤ n
hi_by h l n k j a b e = le_of_mul-le-mul_right {k = k} (omega (arith, mul-le-mul_left n a)) b

pub hi_low : {g : ℕ → Cell} {a n : ℕ} {t : Tally} → Tallied g a n t → t.hi ≤ n
hi_low {g} {a} {n} {t} s = hi_by t.hi t.lo n 18446744073709551616 18446744073709551615 (omega arith) (omega arith) s.low

-- the upper half of a product
pub hi_most : (h l a b : ℕ) → h * 18446744073709551616 + l ≡ a * b → a ≤ 18446744073709551615 → h ≤ b
hi_most h l a b e u =
    hi_by h l b 18446744073709551616 18446744073709551615 (omega arith) (omega arith) (le_trans (le_of_eq (e ∙ mul_comm a b)) (mul-le-mul_left b u))

pub at_most : (a k : ℕ) → a ≤ 1 → a * k ≤ k
at_most a k h = omega (arith, mul-le-mul_right k h)

-- ---- a stretch more

pub none_yet : (g : ℕ → Cell) (a : ℕ) (t : Tally) → t.count ≡ 0 → t.below ≡ 0 → t.hi ≡ 0 → t.lo ≡ 0 → Tallied g a 0 t
none_yet g a t p q u v =
    record { count = p; below = q; value = omega arith; few = omega arith; few_below = omega arith; low = omega arith }

pub stretched : (g : ℕ → Cell) (a n k : ℕ) (t r : Tally) (c : Cell) → Tallied g a n t → ((j : ℕ) → j < k → g (a + n + j) ≡ c)
    → c.count ≤ 1 → c.below ≤ 1 → c.bits ≤ 18446744073709551615
    → r.count ≡ t.count + c.count * k → r.below ≡ t.below + c.below * k → value_of r ≡ value_of t + c.bits * k
    → Tallied g a (n + k) r
stretched g a n k t r c s h p q u e1 e2 e3 =
    record {
      count = e1 ∙ ap₂ ◌+◌ s.count (sym (sums_same (λ y. y.count) g c (a + n) k h)) ∙ sym (sums_add (λ y. y.count) g a n k);
      below = e2 ∙ ap₂ ◌+◌ s.below (sym (sums_same (λ y. y.below) g c (a + n) k h)) ∙ sym (sums_add (λ y. y.below) g a n k);
      value = e3 ∙ ap₂ ◌+◌ s.value (sym (sums_same (λ y. y.bits) g c (a + n) k h)) ∙ sym (sums_add (λ y. y.bits) g a n k);
      few = omega (arith, s.few, e1, at_most c.count k p);
      few_below = omega (arith, s.few_below, e2, at_most c.below k q);
      low = omega (arith, s.low, e3, mul-le-mul_right k u, add-mul n k 18446744073709551615, mul_comm k 18446744073709551615);
    }

-- a tally of the cells h b .. h (b + k - 1), which come next
pub appended : (g h : ℕ → Cell) (a n b k : ℕ) (t u r : Tally) → Tallied g a n t → Tallied h b k u → ((j : ℕ) → j < k → g (a + n + j) ≡ h (b + j))
    → r.count ≡ t.count + u.count → r.below ≡ t.below + u.below → value_of r ≡ value_of t + value_of u
    → Tallied g a (n + k) r
appended g h a n b k t u r s v e e1 e2 e3 =
    record {
      count = e1 ∙ ap₂ ◌+◌ s.count (v.count ∙ sym (sums_alike (λ y. y.count) g h (a + n) b k e)) ∙ sym (sums_add (λ y. y.count) g a n k);
      below = e2 ∙ ap₂ ◌+◌ s.below (v.below ∙ sym (sums_alike (λ y. y.below) g h (a + n) b k e)) ∙ sym (sums_add (λ y. y.below) g a n k);
      value = e3 ∙ ap₂ ◌+◌ s.value (v.value ∙ sym (sums_alike (λ y. y.bits) g h (a + n) b k e)) ∙ sym (sums_add (λ y. y.bits) g a n k);
      few = omega (arith, s.few, v.few, e1);
      few_below = omega (arith, s.few_below, v.few_below, e2);
      low = omega (arith, s.low, v.low, e3, add-mul n k 18446744073709551615);
    }

-- a tally of cells that are alike
pub alike : (g h : ℕ → Cell) (a b n : ℕ) (t : Tally) → Tallied h b n t → ((j : ℕ) → j < n → g (a + j) ≡ h (b + j)) → Tallied g a n t
alike g h a b n t s e =
    record {
      count = s.count ∙ sym (sums_alike (λ y. y.count) g h a b n e);
      below = s.below ∙ sym (sums_alike (λ y. y.below) g h a b n e);
      value = s.value ∙ sym (sums_alike (λ y. y.bits) g h a b n e);
      few = s.few;
      few_below = s.few_below;
      low = s.low;
    }

-- ---- rows that the cells stand for

count_is : (m : ℕ) (r : Row) → (cell_of m r).count ≡ count_in r
unfolding cell_of
count_is m null = refl
count_is m (whole (pos n)) = refl
count_is m (whole (negsuc n)) = refl
count_is m (single b) = refl
count_is m (double b) = refl
count_is m (bytes s) = refl
count_is m (list rs) = refl
count_is m (union i r) = refl

module _ (m : ℕ) (f : ℕ → Row) (g : ℕ → Cell) where
  abbrev Agree : ℕ → ℕ → Type 0
  Agree a n = (j : ℕ) → j < n → cell_of m (f (a + j)) ≡ g (a + j)

  first : (a n : ℕ) → Agree a (suc n) → cell_of m (f a) ≡ g a
  first a n h = let e : a + 0 ≡ a = omega arith in subst (λ i. cell_of m (f i) ≡ g i) e (h 0 (omega arith))

  later : (a n : ℕ) → Agree a (suc n) → Agree (suc a) n
  later a n h j l = let e : a + suc j ≡ suc a + j = omega arith in subst (λ i. cell_of m (f i) ≡ g i) e (h (suc j) (omega arith))

  counts : (a n : ℕ) → Agree a n → sum_by (λ c. c.count) g a n ≡ count_of (seg f a n)
  counts a zero h = refl
  counts a (suc n) h = ap₂ ◌+◌ (ap (λ c. c.count) (sym (first a n h)) ∙ count_is m (f a)) (counts (suc a) n (later a n h))

  belows : (a n : ℕ) → Agree a n → sum_by (λ c. c.below) g a n ≡ below_of m (seg f a n)
  belows a zero h = refl
  belows a (suc n) h = ap₂ ◌+◌ (ap (λ c. c.below) (sym (first a n h))) (belows (suc a) n (later a n h))

  patterns : (a n : ℕ) → Agree a n → sum_by (λ c. c.bits) g a n ≡ bits_of m (seg f a n)
  patterns a zero h = refl
  patterns a (suc n) h = ap₂ ◌+◌ (ap (λ c. c.bits) (sym (first a n h))) (patterns (suc a) n (later a n h))

  module _ (a n : ℕ) (t : Tally) (s : Tallied g a n t) (h : (j : ℕ) → j < n → cell_of m (f (a + j)) ≡ g (a + j)) where
    -- THE COUNT of a tally is that of the rows
    pub counted : t.count ≡ count_of (seg f a n)
    counted = s.count ∙ counts a n h

    -- .. and THE SUM that it stands for is theirs
    pub summed : (lift : ℕ) → 0 < m → m + lift ≡ 18446744073709551616 → tallied_by lift t ≡ sum_of (seg f a n)
    summed lift p e =
        let d : 18446744073709551616 - lift ≡ m = omega arith in
        ap₂ (λ x y. pos x -ℤ pos y) (s.value ∙ patterns a n h) (ap₂ ◌*◌ (s.below ∙ belows a n h) d)
        ∙ sym (less (sum_of (seg f a n)) (bits_of m (seg f a n)) (below_of m (seg f a n) * m) (rows_add m p (seg f a n)))
