-- How many stretches of one value the rows of a column have. Assumes nothing.
use Rattle.std.specs.Prelude.{ℕ, zero, suc, ◌+◌, ◌-◌, max, cond, List, nat_lt, Result, Ok, Err}
use Rattle.run_ends.specs.declared.RunRow.{RunRow}
use Rattle.aggregates.specs.declared.cell_sums.Numbers.{Numbers}
use Rattle.aggregates.specs.cell_sums.Numbers.{asked}

-- behind the rows that are left of a run
abbrev pub until_by : ℕ → Result RunRow ℕ → ℕ
until_by row (Ok r) = row + r.left
until_by row (Err g) = row + 1

-- where the stretch of a row ends: with its run; a plain row is one of its own
unfoldable pub until_of : List ℕ → Numbers → ℕ → ℕ
until_of body n row = cond n.runs (until_by row (asked body n row)) (row + 1)

-- how often one goes on from a row to the end of its stretch, before `end` is reached; in at most f steps, and any f from end - row on gives
-- the same
unfoldable pub stretches_by : (ℕ → ℕ) → ℕ → ℕ → ℕ → ℕ
stretches_by until end zero row = 0
stretches_by until end (suc f) row = cond (nat_lt row end) (suc (stretches_by until end f (max (suc row) (until row)))) 0

-- THE STRETCHES of the rows row .. end - 1: of a run-end column, the runs that hold one of them
abbrev pub stretches_of : (ℕ → ℕ) → ℕ → ℕ → ℕ
stretches_of until end row = stretches_by until end (end - row) row

-- .. that begin after one that lasts to u, and that one
abbrev pub stretches_from : (ℕ → ℕ) → ℕ → ℕ → ℕ → ℕ
stretches_from until end row u = cond (nat_lt row u) 1 0 + stretches_of until end u

-- THE STRETCHES OF BOTH that are left at a row, where the one of the first lasts to u and that of the second to v
unfoldable pub both_left : (ℕ → ℕ) → (ℕ → ℕ) → ℕ → ℕ → ℕ → ℕ → ℕ
both_left f g end row u v = cond (nat_lt row end) (stretches_from f end row u + stretches_from g end row v) 0
