-- The plans of a result of plain rows and of one of runs, word for word. Assumes nothing.
use Rattle.std.specs.Prelude.{List, ℕ, ◌+◌, set, replicate}

-- one node of numbers: its code, where it ends, whether it is nullable; one source and one node; whether it keeps nulls (k), the part of its
-- values, behind its validity where it keeps nulls, and how many parts there are
abbrev pub row_plan_of : ℕ → ℕ → ℕ → List ℕ
row_plan_of code nullable k = set (set (set (set (set (set (set (set (replicate 872 0) 0 code) 2 1) 4 nullable) 864 1) 865 1) 5 k) 6 k) 866 (1 + k)

-- three nodes, run ends and values below the root; only the values may keep nulls
abbrev pub run_plan : ℕ → ℕ → ℕ → ℕ → ℕ → ℕ → List ℕ
run_plan ends values f0 f1 f2 k =
    set (set (set (set (set (set (set (set (set (set (set (set (set (set (replicate 872 0) 0 23) 2 3) 4 f0) 8 ends) 10 2) 12 f1) 16 values) 18 3) 20 f2) 864 1) 865 3) 21 k) 22 (1 + k)) 866 (2 + k)
