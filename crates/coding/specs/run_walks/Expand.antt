-- The walk that writes the rows of a run-end column as a plain one, stretch by stretch: node 0 is the plain node (02, W1, W7). Assumes nothing.
use Rattle.std.specs.Prelude.{Bool, cond, List, ℕ, zero, suc, ◌+◌, ◌*◌, ◌-◌, min, replicate, ltb}
use Rattle.columnar.specs.Types.{Number, width, fixed, t_plain, t_run_end}
use Rattle.columnar.specs.RunEnd.{end_of}
use Rattle.columnar.specs.Reading.{Column}
use Rattle.walk.specs.State.{rows, add_rows}
use Rattle.walk.specs.Log.{Out, put, mask, done, wrote, next}
use Rattle.refinement.specs.walk_is_model.Holds.{flag}
use Rattle.anew.specs.runs.Runs.{ok_at}
use Rattle.anew.specs.runs.Picked.{cells}
use Rattle.anew.specs.runs.Coding.{run_at}

-- the m rows from a on of a column; keep: the result keeps nulls
module _ (k : Number) (w : ℕ) (v : Column (t_run_end w (t_plain (fixed k)))) (a m : ℕ) (keep : Bool) where
  -- how many rows of the range, from its row r on, fall in row r's run
  abbrev pub stretch : ℕ → ℕ
  stretch r = min (end_of w v.body.ends (run_at w v (a + r)) - (v.off + (a + r))) (m - r)

  unfoldable pub fill_bits : ℕ → ℕ → List ℕ → Out
  fill_bits q n c = cond keep (wrote (mask 0 (rows c 0) (replicate n (flag (ok_at v.body.values q)))) c) (done c)

  -- n rows of run q
  unfoldable pub fill : ℕ → ℕ → List ℕ → Out
  fill q n c = next (wrote (put 0 1 (rows c 0 * width k) (cells k v.body.values (replicate n q))) c) (λ c1. next (fill_bits q n c1) (λ c2. done (add_rows 0 n c2)))

  -- from row r of the range on, in at most so many stretches
  unfoldable pub expand_from : ℕ → ℕ → List ℕ → Out
  expand_from zero r c = done c
  expand_from (suc f) r c = cond (ltb r m) (next (fill (run_at w v (a + r)) (stretch r) c) (λ c2. expand_from f (r + stretch r) c2)) (done c)

  -- ALL ROWS
  unfoldable pub expand_walk : List ℕ → Out
  expand_walk c = expand_from m 0 c
