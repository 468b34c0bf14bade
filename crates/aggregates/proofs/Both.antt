-- The tallies of two accepted whole-number columns are those of the rows that both have. Assumes nothing.
use Rattle.std.specs.Prelude.{Ok, Err}
use Rattle.std.proofs.Common.{◌≡◌, ℕ, ◌+◌, ◌-◌, ◌^◌, ◌<◌, Bool, true, false, ◌&&◌, List, ℤ, pos, negsuc, sym, refl, ap, ◌∙◌, ap₂, arith, eq-eqb, ne_eqb}
use mathlib.Core.Bool.{false≢true}
use Rattle.columnar.specs.Row.{Row, null, whole, single, double, bytes, list, union, seg}
use Rattle.array_data.specs.Tables.{Tables}
use Rattle.array_data.specs.type_tree.Lent.{type_of}
use Rattle.columns.specs.column_pair.Pair.{range_in}
use Rattle.aggregates.specs.declared.fractions.Fraction.{Fraction}
use Rattle.aggregates.specs.fractions.Lowest.{fraction_of}
use Rattle.aggregates.specs.declared.tally.Cell.{Cell}
use Rattle.aggregates.specs.declared.tally.Tally.{Tally}
use Rattle.aggregates.specs.tally.Sums.{count_of, sum_of, fits}
use Rattle.aggregates.specs.tally.Cells.{cell_of, tallied_by, Tallied}
use Rattle.aggregates.proofs.tally.Sums.{hi_low, counted, summed}
use Rattle.aggregates.specs.patterns.Parts.{Sized}
use Rattle.aggregates.specs.cell_sums.Numbers.{mask_cell, both_cells}
use Rattle.aggregates.specs.Report.{whole_type, beside, both_rows, is_zero, ratio_by, row_of, pair_of, ratio_report}
use Rattle.aggregates.proofs.Tallies.{above, few}

-- what is masked adds what the masked row adds
mask_cell_lem : (m k : ℕ) (f g : Row) → cell_of m (beside g f) ≡ mask_cell (cell_of m f) (cell_of k g)
unfolding cell_of mask_cell
mask_cell_lem m k f null = refl
mask_cell_lem m k f (whole (pos n)) = refl
mask_cell_lem m k f (whole (negsuc n)) = refl
mask_cell_lem m k f (single b) = refl
mask_cell_lem m k f (double b) = refl
mask_cell_lem m k f (bytes s) = refl
mask_cell_lem m k f (list rs) = refl
mask_cell_lem m k f (union i r) = refl

-- two columns' cells over a range
module _ (v w : ℕ) (f g : ℕ → Row) (p q : ℕ → Cell) (start n : ℕ)
    (a : (j : ℕ) → j < n → cell_of (256 ^ v) (f (start + j)) ≡ p (start + j)) (b : (j : ℕ) → j < n → cell_of (256 ^ w) (g (start + j)) ≡ q (start + j))
    (t : Tally) (d : Tallied (both_cells p q) start n t) where
  agree : (j : ℕ) → j < n → cell_of (256 ^ v) (both_rows f g (start + j)) ≡ both_cells p q (start + j)
  agree j l = mask_cell_lem (256 ^ v) (256 ^ w) (f (start + j)) (g (start + j)) ∙ ap₂ mask_cell (a j l) (b j l)

  pub both_count : t.count ≡ count_of (seg (both_rows f g) start n)
  both_count = counted (256 ^ v) (both_rows f g) (both_cells p q) start n t d agree

  pub both_sum : Sized v → (lift : ℕ) → 256 ^ v + lift ≡ 18446744073709551616 → tallied_by lift t ≡ sum_of (seg (both_rows f g) start n)
  both_sum s lift h = summed (256 ^ v) (both_rows f g) (both_cells p q) start n t d agree lift (above v s) h

pub low_room : (g : ℕ → Cell) (start n : ℕ) (t : Tally) → Tallied g start n t → n < 9223372036854775808 → t.hi + t.below < 18446744073709551615
low_room g start n t d l = (few t.hi t.below t.count n (hi_low d) d.few_below d.few l).0

pub shorter : (start end : ℕ) → end < 9223372036854775808 → end - start < 9223372036854775808
shorter start end h = omega arith

-- ---- answers

and_left_no : (a b : Bool) → a ≡ false → a && b ≡ false
and_left_no true b h = absurd (false≢true (sym h))
and_left_no false b h = refl

and_right_no : (a b : Bool) → b ≡ false → a && b ≡ false
and_right_no true b h = h
and_right_no false b h = refl

both_yes : (a b : Bool) → a ≡ true → b ≡ true → a && b ≡ true
both_yes a b p q = rw (p, q)

module _ (count : ℕ) (y z : ℤ) where
  pub ratio_first : fits y ≡ false → Err 15 ≡ ratio_by count y z
  unfolding ratio_by
  ratio_first h = rw (and_left_no (fits y) (fits z) h)

  pub ratio_second : fits z ≡ false → Err 15 ≡ ratio_by count y z
  unfolding ratio_by
  ratio_second h = rw (and_right_no (fits y) (fits z) h)

  pub ratio_none : fits y ≡ true → fits z ≡ true → is_zero z ≡ true → Err 16 ≡ ratio_by count y z
  unfolding ratio_by
  ratio_none p q h = rw (both_yes (fits y) (fits z) p q, h)

  pub ratio_done : fits y ≡ true → fits z ≡ true → is_zero z ≡ false → (y' z' : ℤ) → y' ≡ y → z' ≡ z → (f : Fraction) → f ≡ fraction_of y z
      → Ok (record { count = count; first = y'; second = z'; minus = f.minus; over = f.over; under = f.under }) ≡ ratio_by count y z
  unfolding ratio_by
  ratio_done p q h y' z' e d f i = rw (both_yes (fits y) (fits z) p q, h, e, d, i)

pub zero_test : (z : ℤ) → (z ≡ pos 0 → ⊥) → is_zero z ≡ false
zero_test (pos n) h = ne_eqb n 0 (λ e. h (ap pos e))
zero_test (negsuc n) h = refl

module _ (formats schema : List ℕ) (x : Tables) (a n b m start end : ℕ) where
  pub ratio_ground_lem : (g : ℕ) → g ≡ pair_of formats schema x a n b m → (g ≡ 0 → ⊥) → Err g ≡ ratio_report formats schema x a n b m start end
  unfolding ratio_report
  ratio_ground_lem g e h = rw (ne_eqb (pair_of formats schema x a n b m) 0 (λ q. h (e ∙ q)), e)

  module _ (g : pair_of formats schema x a n b m ≡ 0) where
    pub ratio_range_a : range_in x a start end ≡ false → Err 2 ≡ ratio_report formats schema x a n b m start end
    unfolding ratio_report
    ratio_range_a r = rw (eq-eqb (pair_of formats schema x a n b m) 0 g, and_left_no (range_in x a start end) (range_in x b start end) r)

    pub ratio_range_b : range_in x b start end ≡ false → Err 2 ≡ ratio_report formats schema x a n b m start end
    unfolding ratio_report
    ratio_range_b r = rw (eq-eqb (pair_of formats schema x a n b m) 0 g, and_right_no (range_in x a start end) (range_in x b start end) r)

    module _ (r : range_in x a start end ≡ true) (s : range_in x b start end ≡ true) where
      pub ratio_type_a : whole_type (type_of formats schema a n) ≡ false → Err 10 ≡ ratio_report formats schema x a n b m start end
      unfolding ratio_report
      ratio_type_a w =
          rw (eq-eqb (pair_of formats schema x a n b m) 0 g, both_yes (range_in x a start end) (range_in x b start end) r s, and_left_no (whole_type (type_of formats schema a n)) (whole_type (type_of formats schema b m)) w)

      pub ratio_type_b : whole_type (type_of formats schema b m) ≡ false → Err 10 ≡ ratio_report formats schema x a n b m start end
      unfolding ratio_report
      ratio_type_b w =
          rw (eq-eqb (pair_of formats schema x a n b m) 0 g, both_yes (range_in x a start end) (range_in x b start end) r s, and_right_no (whole_type (type_of formats schema a n)) (whole_type (type_of formats schema b m)) w)

      pub ratio_answer : whole_type (type_of formats schema a n) ≡ true → whole_type (type_of formats schema b m) ≡ true → (count : ℕ) (y z : ℤ)
          → count ≡ count_of (seg (both_rows (row_of formats schema x a n) (row_of formats schema x b m)) start (end - start))
          → y ≡ sum_of (seg (both_rows (row_of formats schema x a n) (row_of formats schema x b m)) start (end - start))
          → z ≡ sum_of (seg (both_rows (row_of formats schema x b m) (row_of formats schema x a n)) start (end - start))
          → ratio_by count y z ≡ ratio_report formats schema x a n b m start end
      unfolding ratio_report
      ratio_answer w v count y z p q e =
          rw (eq-eqb (pair_of formats schema x a n b m) 0 g, both_yes (range_in x a start end) (range_in x b start end) r s, both_yes (whole_type (type_of formats schema a n)) (whole_type (type_of formats schema b m)) w v) (rw (p, q, e))
