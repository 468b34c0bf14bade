-- An order walked by stretches, for list-views, also of list-views, down to a node without children, and for dense unions of such nodes; 12 where it does not
-- apply, which says nothing of the order: `copyWalk` stays what an order is. Assumes nothing.
use Rattle.std.specs.Prelude.{Bool, true, cond, ◌&&◌, List, ℕ, zero, suc, ◌+◌, ◌*◌, take, drop, ltb, eqb}
use Rattle.number.specs.Number.{entry}
use Rattle.columnar.specs.Types.{half}
use Rattle.schema.specs.formats.Code.{between, is_string, is_list_view}
use Rattle.utils.specs.Pieces.{numbers}
use Rattle.walk.specs.State.{Join, code_of, keeps_of, bytes_of, rows, add_rows, place, offset_of, far, slot_of, rows_in}
use Rattle.walk.specs.Log.{Out, put, fail, done, wrote, need, found, next}
use Rattle.walk.specs.Leaves.{copy_mask}
use Rattle.walk.specs.Copy.{Walk, copy_walk, masked}
use Rattle.batch.specs.Stretch.{sum_of, never_falls, stretches}
pub use Rattle.batch.specs.Rise.{owned}
use Rattle.batch.specs.Dense.{batch_dense}

-- numbers, keys, byte strings and views: nodes that have no children
abbrev pub is_leaf : ℕ → Bool
is_leaf code = between 1 16 code

module _ (x : Join) where
  -- the rows a .. a + n - 1 of node k may be cut: the offsets of a byte string never fall, else a range cut is not that range
  unfoldable pub steady : ℕ → ℕ → ℕ → Bool
  steady k a n =
      cond (is_string (code_of x.plan k))
      (never_falls (bytes_of x.plan k) x.body (place x k 3 + bytes_of x.plan k * (offset_of x k + a)) n) true

  -- a node without children, as `copyWalk` walks it
  unfoldable pub batch_leaf : Walk
  batch_leaf k a n c = need (is_leaf (code_of x.plan k)) 12 c (need (steady k a n) 12 c (copy_walk x 1 k a n c))

  module _ (child : Walk) where
    -- a list-view: "each row's new offset is the child's length before its copy", which is the sum of the sizes before it; 6 before all of it
    unfoldable pub batch_list_view : ℕ → ℕ → ℕ → ℕ → List ℕ → Out
    batch_list_view w i slot n c =
        need (ltb (suc i) 32 && (owned x.plan i && owned x.plan (suc i))) 12 c
        (need (rows_in x (place x i 3) w slot n && rows_in x (place x i 5) w slot n) 12 c
        (need (ltb (rows c (suc i) + sum_of (λ r. entry w x.body (place x i 5) (slot + r)) n) (half w)) 6 c
        (next (wrote (put i 1 (rows c i * w) (numbers w (λ r. rows c (suc i) + sum_of (λ q. entry w x.body (place x i 5) (slot + q)) r) n)) c)
        (λ c2. next (wrote (put i 2 (rows c2 i * w) (take (w * n) (drop (place x i 5 + w * slot) x.body))) c2)
        (λ c3. stretches (λ a m d. child (suc i) a m d) (λ r. entry w x.body (place x i 3) (slot + r)) (λ r. entry w x.body (place x i 5) (slot + r)) n c3)))))

    -- the children of a dense union have no children
    unfoldable pub batch_data : ℕ → ℕ → ℕ → ℕ → List ℕ → Out
    batch_data code i slot n c =
        cond (is_list_view code) (batch_list_view (bytes_of x.plan i) i slot n c) (cond (eqb code 22) (batch_dense x batch_leaf i slot n c) (fail 12 c))

    -- validity, data, and the rows counted
    unfoldable pub batch_slots : ℕ → ℕ → ℕ → List ℕ → Out
    batch_slots i slot n c =
        next (cond (masked (code_of x.plan i)) (copy_mask x i slot n c) (done c))
        (λ c2. next (batch_data (code_of x.plan i) i slot n c2)
        (λ c3. done (add_rows i n c3)))

    unfoldable pub batch_node : ℕ → ℕ → ℕ → List ℕ → Out
    batch_node i a n c = need (ltb i 32) 12 c (found far (slot_of x i a n) 12 c (λ slot. batch_slots i slot n c))

-- a child's walk: a node without children, or a list-view that keeps no nulls of such a child, at most `depth` list-views down
unfoldable pub batch_below : Join → ℕ → Walk
batch_below x zero i a n c = batch_leaf x i a n c
batch_below x (suc depth) i a n c =
    cond (is_list_view (code_of x.plan i))
    (need (eqb (keeps_of x.plan i) 0) 12 c (batch_node x (batch_below x depth) i a n c))
    (batch_leaf x i a n c)

-- THE WALK BY STRETCHES of rows a .. a + n - 1 of node i
unfoldable pub batch_walk_of : Join → Walk
batch_walk_of x i a n c = batch_node x (batch_below x 6) i a n c
