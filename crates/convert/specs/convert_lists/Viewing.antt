-- The walk that writes a list column as a list-view: node 0 of the plan is the list-view; its child is named in the source body, without a part
-- (02, W4). Assumes nothing.
use Rattle.std.specs.Prelude.{cond, List, ℕ, suc, ◌+◌, ◌*◌, ◌-◌, eqb}
use Rattle.number.specs.Number.{entry, encode}
use Rattle.walk.specs.State.{Join, add_rows, place, length_of, offset_of, rows_in}
use Rattle.walk.specs.Log.{Out, put, done, wrote, need, next, each}
use Rattle.walk.specs.Leaves.{copy_mask}

module _ (x : Join) (w : ℕ) where
  -- the list's offset at row r, and at the next one
  abbrev pub start_at : ℕ → ℕ
  start_at r = entry w x.body (place x 0 3) (offset_of x 0 + r)

  abbrev pub next_at : ℕ → ℕ
  next_at r = entry w x.body (place x 0 3) (offset_of x 0 + r + 1)

  -- "each row's offset and size, null rows included"
  unfoldable pub view_row : ℕ → List ℕ → Out
  view_row r c = next (wrote (put 0 1 (r * w) (encode w (start_at r))) c) (λ c2. wrote (put 0 2 (r * w) (encode w (next_at r - start_at r))) c2)

  -- no row reads no offset: "a byte string of length 0 may have an empty offsets buffer"
  unfoldable pub view_rows : ℕ → List ℕ → Out
  view_rows n c = cond (eqb n 0) (done c) (need (rows_in x (place x 0 3) w (offset_of x 0) (suc n)) 12 c (each view_row n 0 c))

  -- the root's validity, the rows, and their number
  unfoldable pub view_walk : List ℕ → Out
  view_walk c =
      next (copy_mask x 0 (offset_of x 0) (length_of x 0) c)
      (λ c1. next (view_rows (length_of x 0) c1) (λ c2. done (add_rows 0 (length_of x 0) c2)))
