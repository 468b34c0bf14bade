-- Run ends, and the run of a row: n signed numbers of w bytes that stand in s from the byte `from` on. Assumes nothing.
use Rattle.std.specs.Prelude.{ℕ, zero, suc, ◌+◌, ◌*◌, ◌-◌, ◌/◌, ◌^◌, ◌≤◌, ◌<◌, min, cond, List, ltb, leb, Option, Some, None}
use Rattle.number.specs.Number.{entry}
use Rattle.run_ends.specs.declared.PhysicalRun.{PhysicalRun}
use Rattle.run_ends.specs.declared.RunRow.{RunRow}
use Rattle.run_ends.specs.declared.RunRange.{RunRange}

-- ---- ends as a function: e k is the end of run k

-- the first of the n runs from run i on whose end is above row x, looked at one after the other; i + n where there is none
unfoldable pub scan : (ℕ → ℕ) → ℕ → ℕ → ℕ → ℕ
scan e x zero i = i
scan e x (suc n) i = cond (ltb x (e i)) i (scan e x n (suc i))

-- the first of n runs whose end is above row x; n where there is none
abbrev pub first : (ℕ → ℕ) → ℕ → ℕ → ℕ
first e n x = scan e x n 0

-- 1 where the run end y is not above row x, else 0
abbrev pub not_above : ℕ → ℕ → ℕ
not_above x y = cond (ltb x y) 0 1

-- how many of the m runs from `base` on have an end that is not above row x
unfoldable pub tally : (ℕ → ℕ) → ℕ → ℕ → ℕ → ℕ
tally e x base zero = 0
tally e x base (suc m) = tally e x base m + not_above x (e (base + m))

-- .. of the three runs that part those from `base` on into quarters of q
abbrev pub passed : (ℕ → ℕ) → ℕ → ℕ → ℕ → ℕ
passed e x base q = not_above x (e (base + q)) + not_above x (e (base + 2 * q)) + not_above x (e (base + 3 * q))

-- a search by quarters among `size` runs from `base` on, in at most `turns` turns; the last three are counted
unfoldable pub quarter : (ℕ → ℕ) → ℕ → ℕ → ℕ → ℕ → ℕ
quarter e x zero base size = base + tally e x base size
quarter e x (suc turns) base size =
    cond (ltb size 4)
    (base + tally e x base size)
    (quarter e x turns (base + size / 4 * passed e x base (size / 4)) (size - 3 * (size / 4)))

-- strictly rising from at least 1
pub record Climbs (e : ℕ → ℕ) (n : ℕ) : Type 0 where
  pub start : 0 < n → 1 ≤ e 0
  pub rises : (k : ℕ) → k + 1 < n → e k < e (k + 1)

-- n run ends reach over the rows below `end`
pub record Covers (e : ℕ → ℕ) (n end : ℕ) : Type 0 where
  pub runs : 0 < n
  pub last : end ≤ e (n - 1)

-- ---- ends in bytes, over the width w

-- the Columnar Format's run of row x: the first of n whose end is above it; n where there is none
abbrev pub first_above : ℕ → List ℕ → ℕ → ℕ → ℕ → ℕ
first_above w s from n x = first (entry w s from) n x

-- what the search by quarters answers, whatever the ends are
abbrev pub bisect : ℕ → List ℕ → ℕ → ℕ → ℕ → ℕ
bisect w s from n x = quarter (entry w s from) x n 0 n

-- run ends as a source has them: strictly rising from at least 1; none is negative, so that they are read without a sign
pub record Rising (w : ℕ) (s : List ℕ) (from n : ℕ) : Type 0 where
  pub climbs : Climbs (entry w s from) n
  pub small : (k : ℕ) → k < n → entry w s from k < 256 ^ w / 2

-- the last of n run ends; 0 where there is none
abbrev pub last_end : ℕ → List ℕ → ℕ → ℕ → ℕ
last_end w s from zero = 0
last_end w s from (suc k) = entry w s from k

-- how many rows from x on stand before the run's end and before `last`, which is one past the column's last row
abbrev pub left_of : ℕ → ℕ → ℕ → ℕ
left_of end last x = min end last - x

-- run k, which ends at `end`, with the rows left from x on; none where that is not above row x
abbrev pub answered : ℕ → ℕ → ℕ → ℕ → Option RunRow
answered k end last x = cond (ltb x end) (Some (record { run = record { 0 = k }; left = left_of end last x })) None

-- .. of n runs; k = n: the row is past the last run
abbrev pub found_at : ℕ → List ℕ → ℕ → ℕ → ℕ → ℕ → ℕ → Option RunRow
found_at w s from n last x k = cond (ltb k n) (answered k (entry w s from k) last x) None

-- the run of row x and the rows left before `last`, by the search
abbrev pub found_run : ℕ → List ℕ → ℕ → ℕ → ℕ → ℕ → Option RunRow
found_run w s from n last x = found_at w s from n last x (bisect w s from n x)

-- the same by the Columnar Format's run of a row
abbrev pub format_run : ℕ → List ℕ → ℕ → ℕ → ℕ → ℕ → Option RunRow
format_run w s from n last x = found_at w s from n last x (first_above w s from n x)

-- the runs from a to b; none where b stands before a
abbrev pub span_of : PhysicalRun → PhysicalRun → Option RunRange
span_of a b = cond (ltb b.0 a.0) None (Some (record { first = a; count = b.0 - a.0 + 1 }))

-- the runs from that of a range's first row to that of its last
abbrev pub spanned : Option RunRow → Option RunRow → Option RunRange
spanned (Some a) (Some b) = span_of a.run b.run
spanned (Some a) None = None
spanned None f = None

-- the runs of the rows start .. end - 1, where `look` answers the run of a row
abbrev pub runs_between : (ℕ → Option RunRow) → ℕ → ℕ → Option RunRange
runs_between look start end = cond (ltb start end) (spanned (look start) (look (end - 1))) None

-- .. where the rows are all left in the run of the first, that run alone
abbrev pub shortened : ℕ → Option RunRow → Option RunRow → Option RunRange
shortened rows (Some a) f = cond (leb rows a.left) (Some (record { first = a.run; count = 1 })) (spanned (Some a) f)
shortened rows None f = None

-- the same runs, where `look` answers the run of a row and the rows left in it before `end`: the last row is looked up only where the
-- first row's run ends before it
abbrev pub runs_of : (ℕ → Option RunRow) → ℕ → ℕ → Option RunRange
runs_of look start end = cond (ltb start end) (shortened (end - start) (look start) (look (end - 1))) None
