-- K1's column, run ends 2, 5, 9 at offset 1, computed from the definitions: the runs of its range, and the rows left at each row. Assumes nothing.
use mathlib.Core.Path.{◌≡◌, refl}
use Prim.Native.Nat.{ℕ}
use mathlib.Core.List.{List, [], ◌∷◌, ◌++◌}
use Rattle.number.specs.Number.{number, encode}
use Rattle.run_ends.specs.Lookup.{scan, tally, quarter, found_run, format_run, runs_of, runs_between}
use Rattle.std.specs.Prelude.{Option, Some}
use Rattle.run_ends.specs.declared.RunRow.{RunRow}

-- the run ends 2, 5, 9
unfoldable ends : ℕ → List ℕ
ends w = encode w 2 ++ encode w 5 ++ encode w 9

-- the rows 1..5 of the column are the rows 2..6 of its run ends: the runs 1 and 2, by either lookup
k1_runs : runs_between (format_run 4 (ends 4) 0 3 6) 2 6 ≡ Some (record { first = record { 0 = 1 }; count = 2 })
unfolding ends encode number scan
k1_runs = refl

k1_search : runs_of (found_run 4 (ends 4) 0 3 6) 2 6 ≡ Some (record { first = record { 0 = 1 }; count = 2 })
unfolding ends encode number tally quarter
k1_search = refl

-- the rows 2..3 of the column are all left in run 1
k1_one : runs_of (found_run 4 (ends 4) 0 3 5) 3 5 ≡ Some (record { first = record { 0 = 1 }; count = 1 })
unfolding ends encode number tally quarter
k1_one = refl

-- ---- the rows left

abbrev in_run : ℕ → ℕ → Option RunRow
in_run k left = Some (record { run = record { 0 = k }; left = left })

-- what is found at each of the eight rows, where the column ends before row `last`
unfoldable at_rows : (ℕ → ℕ → Option RunRow) → ℕ → List (Option RunRow)
at_rows look last = look last 1 ∷ look last 2 ∷ look last 3 ∷ look last 4 ∷ look last 5 ∷ look last 6 ∷ look last 7 ∷ look last 8 ∷ []

-- length 8
k1_left : at_rows (found_run 2 (ends 2) 0 3) 9
    ≡ in_run 0 1 ∷ in_run 1 3 ∷ in_run 1 2 ∷ in_run 1 1 ∷ in_run 2 4 ∷ in_run 2 3 ∷ in_run 2 2 ∷ in_run 2 1 ∷ []
unfolding at_rows ends encode number tally quarter
k1_left = refl

-- .. cut to length 6: "at the column's end it stops at the column's length and not at the run's end"
k1_left_cut : at_rows (found_run 2 (ends 2) 0 3) 7
    ≡ in_run 0 1 ∷ in_run 1 3 ∷ in_run 1 2 ∷ in_run 1 1 ∷ in_run 2 2 ∷ in_run 2 1 ∷ in_run 2 0 ∷ in_run 2 0 ∷ []
unfolding at_rows ends encode number tally quarter
k1_left_cut = refl

k1_left_format : at_rows (format_run 8 (ends 8) 0 3) 9
    ≡ in_run 0 1 ∷ in_run 1 3 ∷ in_run 1 2 ∷ in_run 1 1 ∷ in_run 2 4 ∷ in_run 2 3 ∷ in_run 2 2 ∷ in_run 2 1 ∷ []
unfolding at_rows ends encode number scan
k1_left_format = refl
