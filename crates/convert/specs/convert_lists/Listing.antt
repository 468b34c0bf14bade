-- The walk that writes a list-view column as a list: node 0 of the plan is the list, node 1 its child (02, W4). Assumes nothing.
use Rattle.std.specs.Prelude.{cond, ◌&&◌, List, ℕ, suc, ◌+◌, ◌*◌, ltb, eqb}
use Rattle.std.proofs.Math.Option.{Option, none, some}
use Rattle.number.specs.Number.{entry, encode}
use Rattle.columnar.specs.Types.{half}
use Rattle.columnar.specs.Array.{ok}
use Rattle.array_data.specs.Tables.{part}
use Rattle.walk.specs.State.{Join, bytes_of, rows, add_rows, place, length_of, offset_of, rows_in}
use Rattle.walk.specs.Log.{Out, put, done, wrote, need, next, each}
use Rattle.walk.specs.Leaves.{copy_mask}
use Rattle.walk.specs.Copy.{copy_walk}
use Rattle.plan.specs.parts.Parts.{nodes_of}
use Rattle.refinement.specs.orders.Order.{Lent, join_of}
use Rattle.refinement.specs.opening.Open.{first_offset}

module _ (x : Join) (w : ℕ) where
  -- the list-view's validity
  abbrev pub validity : Option (List ℕ)
  validity = cond (eqb (place x 0 0) 0) none (some (part x.body (place x 0 1) (place x 0 2)))

  -- row r's offset and size
  abbrev pub offset_at : ℕ → ℕ
  offset_at r = entry w x.body (place x 0 3) (offset_of x 0 + r)

  abbrev pub size_at : ℕ → ℕ
  size_at r = entry w x.body (place x 0 5) (offset_of x 0 + r)

  -- row r ends where the child now does
  unfoldable pub end_row : ℕ → List ℕ → Out
  end_row r c = wrote (put 0 1 (suc r * w) (encode w (rows c 1))) c

  -- "6 an offset that doesn't fit (before its child)", then the copy of its stretch
  unfoldable pub copy_row : ℕ → List ℕ → Out
  copy_row r c = need (ltb (rows c 1 + size_at r) (half w)) 6 c (next (copy_walk x 7 1 (offset_at r) (size_at r) c) (λ c2. end_row r c2))

  -- "one copy for each valid row", "a null row becomes an empty stretch"
  unfoldable pub list_row : ℕ → List ℕ → Out
  list_row r c = cond (ok validity (offset_of x 0 + r)) (copy_row r c) (end_row r c)

  -- "in row order"
  unfoldable pub list_rows : ℕ → List ℕ → Out
  list_rows n c = need (rows_in x (place x 0 3) w (offset_of x 0) n && rows_in x (place x 0 5) w (offset_of x 0) n) 12 c (each list_row n 0 c)

-- ALL OF IT: the first zero offsets, the root's validity, the rows, and the list's length
unfoldable pub list_walk : Lent → List ℕ → Out
list_walk l c =
    next (each (first_offset l) (nodes_of l.plan) 0 c)
    (λ c1. next (copy_mask (join_of l 0) 0 (offset_of (join_of l 0) 0) (length_of (join_of l 0) 0) c1)
    (λ c2. next (list_rows (join_of l 0) (bytes_of l.plan 0) (length_of (join_of l 0) 0) c2)
    (λ c3. done (add_rows 0 (length_of (join_of l 0) 0) c3))))
