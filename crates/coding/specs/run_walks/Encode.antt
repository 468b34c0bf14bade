-- The walk that writes a plain column's rows as runs: node 0 is the run-end node, node 1 its run ends, node 2 their values (02, W1).
-- Assumes nothing.
use Rattle.std.specs.Prelude.{Bool, cond, List, [], ◌∷◌, ℕ, suc, ◌+◌, ◌*◌}
use Rattle.number.specs.Number.{encode}
use Rattle.columnar.specs.Types.{Number, width, fixed, t_plain}
use Rattle.columnar.specs.Reading.{Column}
use Rattle.walk.specs.State.{rows, add_rows}
use Rattle.walk.specs.Log.{Out, put, mask, done, wrote, next, each}
use Rattle.refinement.specs.walk_is_model.Holds.{flag}
use Rattle.anew.specs.runs.Runs.{ok_at, edge}
use Rattle.anew.specs.runs.Picked.{cell}

-- the m rows from a on of a column, with run ends of w bytes; keep: the values keep nulls
module _ (k : Number) (w : ℕ) (v : Column (t_plain (fixed k))) (a m : ℕ) (keep : Bool) where
  -- the bit of a run whose value row r of the range has
  unfoldable pub emit_bit : ℕ → List ℕ → Out
  emit_bit r c = cond keep (wrote (mask 2 (rows c 2) (flag (ok_at v (a + r)) ∷ [])) c) (done c)

  -- a run that ends behind row r: its end, its value's bytes, "null slots as zeros", and its bit
  unfoldable pub emit : ℕ → List ℕ → Out
  emit r c =
      next (wrote (put 1 1 (rows c 1 * w) (encode w (suc r))) c)
      (λ c1. next (wrote (put 2 1 (rows c1 2 * width k) (cell k v (a + r))) c1) (λ c2. next (emit_bit r c2) (λ c3. done (add_rows 2 1 (add_rows 1 1 c3)))))

  -- row r: only the last of a run is written
  unfoldable pub encode_row : ℕ → List ℕ → Out
  encode_row r c = cond (edge k v a m r) (emit r c) (done c)

  -- ALL ROWS, and then the length of the run-end node
  unfoldable pub encode_walk : List ℕ → Out
  encode_walk c = next (each encode_row m 0 c) (λ c2. done (add_rows 0 m c2))
