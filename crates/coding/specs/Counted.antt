-- The counters of a result of runs, and of one of plain rows. Assumes nothing.
use Rattle.std.specs.Prelude.{List, ℕ, set, replicate}

-- n runs, before the length of the run-end node is known
abbrev pub run_counts : ℕ → List ℕ
run_counts n = set (set (replicate 96 0) 3 n) 6 n

-- n runs of m rows
abbrev pub all_counts : ℕ → ℕ → List ℕ
all_counts m n = set (run_counts n) 0 m

-- m plain rows
abbrev pub row_counts : ℕ → List ℕ
row_counts m = set (replicate 96 0) 0 m
