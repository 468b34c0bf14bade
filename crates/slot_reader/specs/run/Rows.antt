-- The run of a row of a run-end column: n run ends of w bytes that stand in s, with the column's offset and length. Assumes nothing.
use Rattle.std.specs.Prelude.{ℕ, ◌+◌, ◌/◌, ◌^◌, Bool, cond, ◌||◌, List, length, ltb, eqb, Option, Some, None, Result, Ok, Err}
use Rattle.run_ends.specs.Lookup.{first_above, bisect, found_at}
use Rattle.run_ends.specs.declared.RunRow.{RunRow}

-- "Run ends are `s`, `i` or `l`"
abbrev pub is_width : ℕ → Bool
is_width w = eqb w 2 || (eqb w 4 || eqb w 8)

-- the run that `look` answers among the n run ends of w bytes in s; none where w is no width of run ends
abbrev pub run_by : (ℕ → ℕ) → List ℕ → ℕ → ℕ → ℕ → Option RunRow
run_by look s w last x = cond (is_width w) (found_at w s 0 (length s / w) last x (look (length s / w))) None

-- the run of row x, the offset added, and the rows left before `last`, as the search answers it, whatever the ends are
abbrev pub ends_run : List ℕ → ℕ → ℕ → ℕ → Option RunRow
ends_run s w last x = run_by (λ n. bisect w s 0 n x) s w last x

-- the answer from the run that was found; ground 12 where there is none
abbrev pub as_row : Option RunRow → Result RunRow ℕ
as_row (Some r) = Ok r
as_row None = Err 12

-- "Reading a row not below the length is ground 2"; offset and length must fit 64 bits together (12); `look` answers the run of a row and
-- the rows left in it before the column's end
abbrev pub row_run_by : (ℕ → ℕ → Option RunRow) → ℕ → ℕ → ℕ → Result RunRow ℕ
row_run_by look offset len row =
    cond (ltb row len)
    (cond (ltb (offset + len) (2 ^ 64)) (as_row (look (offset + len) (offset + row))) (Err 12))
    (Err 2)

abbrev pub row_run : List ℕ → ℕ → ℕ → ℕ → ℕ → Result RunRow ℕ
row_run s offset len w row = row_run_by (ends_run s w) offset len row

-- the same by the Columnar Format's run of a row: the first whose end is above it
abbrev pub row_run_first : List ℕ → ℕ → ℕ → ℕ → ℕ → Result RunRow ℕ
row_run_first s offset len w row = row_run_by (λ last x. run_by (λ n. first_above w s 0 n x) s w last x) offset len row
