-- The run reader on a lent column: 01, "A call that reads one column outside a join meets 9, 10 and 12 for a malformed column before any ground
-- of its own." Assumes nothing.
use Rattle.std.specs.Prelude.{cond, List, [], ◌∷◌, ℕ, length, eqb, Result, Ok, Err}
use Rattle.array_data.specs.Tables.{Tables}
use Rattle.array_data.specs.Typed.{tables_from}
use Rattle.columns.specs.Grounds.{column_ground}
use Rattle.array_data.specs.node_words.Words.{planted}
use Rattle.run_ends.specs.declared.RunRow.{RunRow}
use Rattle.row_reader.specs.Walk.{run_at}

-- THE RUN OF ROW r: 9, 10 or 12 for a malformed column, then 10 for one that is no run-end column, then 2, then the run and the rows left in it
unfoldable pub read_run : List ℕ → List ℕ → Tables → ℕ → ℕ → ℕ → Result RunRow ℕ
read_run formats schema x first n r =
    cond (eqb (column_ground formats schema x first n) 0)
    (run_at (planted formats schema first n) (tables_from x first) r)
    (Err (column_ground formats schema x first n))

-- what stands in the answer's two numbers: the run and the rows left, or what stood there
abbrev pub run_numbers : Result RunRow ℕ → List ℕ → List ℕ
run_numbers (Ok r) old = r.run.0 ∷ r.left ∷ []
run_numbers (Err g) old = old

-- .. then 14 where the answer has not two numbers, and then it is left as it was
abbrev pub refusal : Result RunRow ℕ → List ℕ → ℕ
refusal (Ok r) answer = cond (eqb (length answer) 2) 0 14
refusal (Err g) answer = g

abbrev pub numbers : Result RunRow ℕ → List ℕ → List ℕ
numbers found answer = cond (eqb (length answer) 2) (run_numbers found answer) answer
