-- What stops an order of nulls: node by node as its walk (walk/specs/Nulls.antt), whose tests these are. A count of 2^63 or more is walked as
-- 2^63 (refinement/specs/orders/Order.antt); the number that 7 needs has it as it was given. Assumes nothing.
use Rattle.std.specs.Prelude.{Bool, true, false, cond, ◌&&◌, List, ℕ, zero, suc, ◌+◌, ◌-◌, min, max, leb, ltb, eqb}
use Rattle.columnar.specs.Types.{half}
use Rattle.walk.specs.State.{Join, code_of, end_of, bytes_of, rows, gap, far}
use Rattle.walk.specs.Log.{Out}
use Rattle.walk.specs.Copy.{is_width}
use Rattle.walk.specs.Nulls.{NullWalk, nullable_child, no_home, null_data, null_walk}
use Rattle.explain.specs.declared.stops.Why.{Why}
use Rattle.explain.specs.stops.Why.{only, nothing, named, clash, unless, past}
use Rattle.explain.specs.stops.Copy.{most}

-- node, nulls, counters
abbrev pub WhyNullWalk : Type 0
WhyNullWalk = ℕ → ℕ → List ℕ → Why

-- a count as it is walked
abbrev pub walked : ℕ → ℕ
walked n = min n far

-- the first position of a child's new rows that does not fit
abbrev pub first_position : ℕ → ℕ
first_position rows = max (half 4) rows

module _ (x : Join) (walk : NullWalk) (why : WhyNullWalk) where
  unfoldable pub why_null_fields : ℕ → ℕ → ℕ → ℕ → List ℕ → Why
  why_null_fields n end zero k c = nothing
  why_null_fields n end (suc f) k c =
      cond (ltb k end) (past (walk k (walked n) c) (why k n c) (λ c2. why_null_fields n end f (end_of x.plan k) c2)) nothing

  -- 4, 5: the union that was reached
  unfoldable pub why_null_sparse : ℕ → ℕ → List ℕ → Why
  why_null_sparse i n c =
      unless (ltb (nullable_child x.plan (end_of x.plan i) 32 (suc i)) 32) (named (no_home x.plan i) i)
      (why_null_fields n (end_of x.plan i) 32 (suc i) c)

  -- 6, dense: the first position that does not fit, and its row
  unfoldable pub why_null_home : ℕ → ℕ → ℕ → List ℕ → Why
  why_null_home i h n c =
      unless (ltb h 32) (named (no_home x.plan i) i)
      (unless (leb (rows c h + walked n) (half 4)) (clash 6 i (first_position (rows c h) - rows c h) (first_position (rows c h)) (most 4)) (why h n c))

  unfoldable pub why_null_dense : ℕ → ℕ → List ℕ → Why
  why_null_dense i n c = why_null_home i (nullable_child x.plan (end_of x.plan i) 32 (suc i)) n c

  -- 7: "the last run end plus the row count", at the run-end node, row 0
  unfoldable pub why_null_end : ℕ → ℕ → ℕ → List ℕ → Why
  why_null_end w i n c = unless (ltb (rows c i + walked n) (half w)) (clash 7 i 0 (rows c i + n) (most w)) nothing

  -- a run that grows asks its values for nothing
  unfoldable pub why_null_runs : ℕ → ℕ → List ℕ → Why
  why_null_runs i n c =
      unless (ltb (suc (suc i)) 32 && is_width (bytes_of x.plan (suc i))) (only 12)
      (cond (eqb (gap c i) 2) (unless (leb 1 (rows c (suc i))) (only 12) (why_null_end (bytes_of x.plan (suc i)) i n c))
      (past (walk (suc (suc i)) 1 c) (why (suc (suc i)) 1 c) (λ c2. why_null_end (bytes_of x.plan (suc i)) i n c2)))

  unfoldable pub why_null_data : ℕ → ℕ → ℕ → List ℕ → Why
  why_null_data code i n c =
      cond (eqb code 21) (why_null_sparse i n c)
      (cond (eqb code 22) (why_null_dense i n c)
      (cond (eqb code 23) (why_null_runs i n c)
      (only (null_data x walk code i (walked n) c).ans)))

  unfoldable pub why_null_node : ℕ → ℕ → List ℕ → Why
  why_null_node i n c = cond (eqb (walked n) 0) nothing (unless (ltb i 32) (only 12) (why_null_data (code_of x.plan i) i n c))

-- WHAT STOPS n NULLS of node i, at most `depth` levels down
unfoldable pub why_nulls : Join → ℕ → WhyNullWalk
why_nulls x zero i n c = only 12
why_nulls x (suc depth) i n c = why_null_node x (null_walk x depth) (why_nulls x depth) i n c
