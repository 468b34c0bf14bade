-- W8, "for a whole-number column and a row range, the count of rows that aren't null, their exact sum, and the mean as a fraction in lowest
-- terms": over rows as crate `columnar` reads them of the lent column, so that runs and offsets are no part of what is asked. Assumes nothing.
use Rattle.std.specs.Prelude.{ℕ, ◌-◌, Bool, false, cond, ◌&&◌, List, ℤ, pos, negsuc, ◌==◌, Result, Ok, Err}
use Rattle.columnar.specs.Row.{Row, null, whole, single, double, bytes, list, union, seg}
use Rattle.columnar.specs.Types.{fixed, string, Ty, t_plain, t_view, t_list_view, t_list, t_sparse, t_dense, t_run_end, t_dictionary}
use Rattle.columnar.specs.Wider.{integer}
use Rattle.columnar.specs.Reading.{read}
use Rattle.array_data.specs.Tables.{Tables}
use Rattle.array_data.specs.Typed.{column_of, tables_from}
use Rattle.array_data.specs.type_tree.Lent.{tree_of, type_of}
use Rattle.columns.specs.Grounds.{column_ground}
use Rattle.columns.specs.column_pair.Pair.{pair_ground, range_in}
use Rattle.aggregates.specs.fractions.Lowest.{fraction_of}
use Rattle.aggregates.specs.tally.Sums.{count_of, sum_of, fits}
use Rattle.aggregates.specs.declared.MeanReport.{MeanReport}
use Rattle.aggregates.specs.declared.RatioReport.{RatioReport}

-- c C s S i I l L, without a dictionary
abbrev pub whole_plain : Ty → Bool
whole_plain (t_plain (fixed m)) = integer m
whole_plain (t_plain (string w)) = false
whole_plain t_view = false
whole_plain (t_list_view w u) = false
whole_plain (t_list w u) = false
whole_plain (t_sparse ids nullable f) = false
whole_plain (t_dense ids nullable f) = false
whole_plain (t_run_end w u) = false
whole_plain (t_dictionary k p) = false

-- "a whole-number column or a run-end column of whole-number values": 10 for all others
abbrev pub whole_type : Ty → Bool
whole_type (t_plain p) = whole_plain (t_plain p)
whole_type t_view = false
whole_type (t_list_view w u) = false
whole_type (t_list w u) = false
whole_type (t_sparse ids nullable f) = false
whole_type (t_dense ids nullable f) = false
whole_type (t_run_end w u) = whole_plain u
whole_type (t_dictionary k p) = false

-- ---- one column

abbrev pub report_of : ℕ → ℤ → MeanReport
report_of count sum =
    record {
      count = count;
      sum = sum;
      minus = (fraction_of sum (pos count)).minus;
      over = (fraction_of sum (pos count)).over;
      under = (fraction_of sum (pos count)).under;
    }

-- "with 15 an exact sum outside −2^63 to 2^63−1, and with 16 a zero denominator, in that order"
unfoldable pub mean_by : ℕ → ℤ → Result MeanReport ℕ
mean_by count sum = cond (fits sum) (cond (count == 0) (Err 16) (Ok (report_of count sum))) (Err 15)

-- of rows
abbrev pub mean_of : List Row → Result MeanReport ℕ
mean_of rows = mean_by (count_of rows) (sum_of rows)

module _ (formats schema : List ℕ) (x : Tables) (first n : ℕ) where
  -- row r of the lent column
  unfoldable pub row_of : ℕ → Row
  row_of r = read (type_of formats schema first n) (column_of (tree_of formats schema first n) (tables_from x first) (type_of formats schema first n) 0) r

  -- THE MEAN of the rows start .. end - 1: 9, 10 and 12 of the column, then 2, 10, 15 and 16
  unfoldable pub mean_report : ℕ → ℕ → Result MeanReport ℕ
  mean_report start end =
      cond (column_ground formats schema x first n == 0)
      (cond (range_in x first start end)
      (cond (whole_type (type_of formats schema first n))
      (mean_of (seg row_of start (end - start)))
      (Err 10))
      (Err 2))
      (Err (column_ground formats schema x first n))

-- ---- two columns

-- a row where the other is present
abbrev pub beside : Row → Row → Row
beside null r = null
beside (whole z) r = r
beside (single b) r = r
beside (double b) r = r
beside (bytes s) r = r
beside (list rs) r = r
beside (union i s) r = r

-- "taking only rows where both are present"
abbrev pub both_rows : (ℕ → Row) → (ℕ → Row) → ℕ → Row
both_rows f g r = beside (g r) (f r)

abbrev pub is_zero : ℤ → Bool
is_zero (pos n) = n == 0
is_zero (negsuc n) = false

abbrev pub ratio_of : ℕ → ℤ → ℤ → RatioReport
ratio_of count first second =
    record {
      count = count;
      first = first;
      second = second;
      minus = (fraction_of first second).minus;
      over = (fraction_of first second).over;
      under = (fraction_of first second).under;
    }

-- 15 of either sum, then 16
unfoldable pub ratio_by : ℕ → ℤ → ℤ → Result RatioReport ℕ
ratio_by count first second =
    cond (fits first && fits second) (cond (is_zero second) (Err 16) (Ok (ratio_of count first second))) (Err 15)

-- of the rows that both have
abbrev pub ratio_rows : (ℕ → Row) → (ℕ → Row) → ℕ → ℕ → Result RatioReport ℕ
ratio_rows f g a n = ratio_by (count_of (seg (both_rows f g) a n)) (sum_of (seg (both_rows f g) a n)) (sum_of (seg (both_rows g f) a n))

module _ (formats schema : List ℕ) (x : Tables) (a n b m : ℕ) where
  abbrev pub pair_of : ℕ
  pair_of = pair_ground (column_ground formats schema x a n) (column_ground formats schema x b m)

  -- TOTAL OVER TOTAL: "each ground is asked of both before the next"
  unfoldable pub ratio_report : ℕ → ℕ → Result RatioReport ℕ
  ratio_report start end =
      cond (pair_of == 0)
      (cond (range_in x a start end && range_in x b start end)
      (cond (whole_type (type_of formats schema a n) && whole_type (type_of formats schema b m))
      (ratio_rows (row_of formats schema x a n) (row_of formats schema x b m) start (end - start))
      (Err 10))
      (Err 2))
      (Err pair_of)
