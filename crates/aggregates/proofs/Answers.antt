-- Each answer by the test that gives it. Assumes nothing.
use Rattle.std.specs.Prelude.{Some, None, Ok, Err}
use Rattle.std.proofs.Common.{◌≡◌, ℕ, ◌-◌, Bool, true, false, cond, List, ℤ, pos, refl, ◌∙◌, ap₂, arith, eq-eqb, ne_eqb}
use Rattle.columnar.specs.Row.{seg}
use Rattle.array_data.specs.Tables.{Tables}
use Rattle.array_data.specs.type_tree.Lent.{type_of}
use Rattle.columns.specs.Grounds.{column_ground}
use Rattle.columns.specs.column_pair.Pair.{range_in}
use Rattle.aggregates.specs.declared.fractions.Fraction.{Fraction}
use Rattle.aggregates.specs.fractions.Lowest.{fraction_of}
use Rattle.aggregates.specs.tally.Sums.{count_of, sum_of, fits, total_of}
use Rattle.aggregates.specs.Report.{whole_type, mean_by, row_of, mean_report}

-- ---- sums

fits_by : {y z : ℤ} → Some y ≡ Some z → y ≡ z
fits_by e = cc

pub total_out : (z : ℤ) → None ≡ total_of z → fits z ≡ false
unfolding total_of
total_out z e = go (fits z) e
  where
    go : (b : Bool) → None ≡ cond b (Some z) None → b ≡ false
    go true q = let y : ◌≡◌ {A = ℕ} 0 1 = cc in absurd (omega arith)
    go false q = refl

pub total_in : (y z : ℤ) → Some y ≡ total_of z → (fits z ≡ true) × (y ≡ z)
unfolding total_of
total_in y z e = go (fits z) e
  where
    go : (b : Bool) → Some y ≡ cond b (Some z) None → (b ≡ true) × (y ≡ z)
    go true q = (refl, fits_by q)
    go false q = let w : ◌≡◌ {A = ℕ} 0 1 = cc in absurd (omega arith)

module _ (count : ℕ) (z : ℤ) where
  pub mean_outside : fits z ≡ false → Err 15 ≡ mean_by count z
  unfolding mean_by
  mean_outside h = rw h

  pub mean_none : fits z ≡ true → count ≡ 0 → Err 16 ≡ mean_by count z
  unfolding mean_by
  mean_none h e = rw (h, eq-eqb count 0 e)

  pub mean_done : fits z ≡ true → (count ≡ 0 → ⊥) → (y : ℤ) → y ≡ z → (f : Fraction) → f ≡ fraction_of z (pos count)
      → Ok (record { count = count; sum = y; minus = f.minus; over = f.over; under = f.under }) ≡ mean_by count z
  unfolding mean_by
  mean_done h e y p f q = rw (h, ne_eqb count 0 e, p, q)

-- ---- one column

module _ (formats schema : List ℕ) (x : Tables) (first n start end : ℕ) where
  pub mean_ground : (g : ℕ) → g ≡ column_ground formats schema x first n → (g ≡ 0 → ⊥) → Err g ≡ mean_report formats schema x first n start end
  unfolding mean_report
  mean_ground g e h = rw (ne_eqb (column_ground formats schema x first n) 0 (λ q. h (e ∙ q)), e)

  module _ (g : column_ground formats schema x first n ≡ 0) where
    pub mean_range : range_in x first start end ≡ false → Err 2 ≡ mean_report formats schema x first n start end
    unfolding mean_report
    mean_range r = rw (eq-eqb (column_ground formats schema x first n) 0 g, r)

    module _ (r : range_in x first start end ≡ true) where
      pub mean_type : whole_type (type_of formats schema first n) ≡ false → Err 10 ≡ mean_report formats schema x first n start end
      unfolding mean_report
      mean_type w = rw (eq-eqb (column_ground formats schema x first n) 0 g, r, w)

      pub mean_answer : whole_type (type_of formats schema first n) ≡ true → (count : ℕ) (sum : ℤ) → count ≡ count_of (seg (row_of formats schema x first n) start (end - start))
          → sum ≡ sum_of (seg (row_of formats schema x first n) start (end - start)) → mean_by count sum ≡ mean_report formats schema x first n start end
      unfolding mean_report
      mean_answer w count sum p q = rw (eq-eqb (column_ground formats schema x first n) 0 g, r, w) (ap₂ mean_by p q)

-- the range's test reads the lengths alone
pub range_same : (x y : Tables) (k start end : ℕ) → x.lengths ≡ y.lengths → range_in x k start end ≡ range_in y k start end
unfolding range_in
range_same x y k start end e = rw e
