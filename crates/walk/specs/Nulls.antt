-- The walk of an order of nulls. Assumes nothing.
-- Follows the `extend_nulls` of arrow-data 60.1.0 src/transform/mod.rs, list.rs, list_view.rs, union.rs and run.rs, Apache-2.0; see NOTICE.
use Rattle.std.specs.Prelude.{cond, ◌&&◌, List, ℕ, zero, suc, ◌+◌, ◌*◌, ◌-◌, replicate, leb, ltb, eqb}
use Rattle.number.specs.Number.{encode}
use Rattle.columnar.specs.Types.{half}
use Rattle.schema.specs.formats.Code.{is_fixed, is_string, is_view, is_list_view, is_list, is_sparse, is_dense}
use Rattle.utils.specs.Offsets.{counted_up, repeated}
use Rattle.walk.specs.State.{Join, code_of, end_of, id_of, nullable_of, bytes_of, rows, gap, add_rows, begin_gap}
use Rattle.walk.specs.Log.{Out, put, amend, fail, done, wrote, need, found, next}
use Rattle.walk.specs.Leaves.{null_mask, count_nulls, null_numbers, null_string}
use Rattle.walk.specs.Copy.{each_field, is_width, masked}

-- node, nulls, counters
abbrev pub NullWalk : Type 0
NullWalk = ℕ → ℕ → List ℕ → Out

-- the first nullable child among those from node k on; 32 where there is none
unfoldable pub nullable_child : List ℕ → ℕ → ℕ → ℕ → ℕ
nullable_child plan end zero k = 32
nullable_child plan end (suc f) k = cond (ltb k end) (cond (eqb (nullable_of plan k) 1) k (nullable_child plan end f (end_of plan k))) 32

-- "4 nonempty null order reaching a union with no fields, 5 the same, with fields but no nullable one"
abbrev pub no_home : List ℕ → ℕ → ℕ
no_home plan i = cond (ltb (suc i) (end_of plan i)) 5 4

module _ (x : Join) (child : NullWalk) where
  -- "A null is offset 0, size 0"
  unfoldable pub null_list_view : ℕ → ℕ → ℕ → List ℕ → Out
  null_list_view w i n c = next (null_numbers x i 1 w n c) (λ c2. null_numbers x i 2 w n c2)

  -- "a null repeats the last offset", which is the child's rows
  unfoldable pub null_list : ℕ → ℕ → ℕ → List ℕ → Out
  null_list w i n c = need (ltb (suc i) 32) 12 c (wrote (put i 1 (suc (rows c i) * w) (repeated w (rows c (suc i)) n)) c)

  -- "A null goes to the first nullable field; sparse gives one to every child, nullable or not."
  unfoldable pub null_sparse : ℕ → ℕ → List ℕ → Out
  null_sparse i n c =
      found 32 (nullable_child x.plan (end_of x.plan i) 32 (suc i)) (no_home x.plan i) c (λ h.
      next (wrote (put i 1 (rows c i) (replicate n (id_of x.plan h))) c)
      (λ c2. each_field x.plan (λ k c3. child k n c3) (end_of x.plan i) 32 (suc i) c2))

  -- "dense 6": the positions of n nulls are the child's rows from its length on
  unfoldable pub null_dense : ℕ → ℕ → List ℕ → Out
  null_dense i n c =
      found 32 (nullable_child x.plan (end_of x.plan i) 32 (suc i)) (no_home x.plan i) c (λ h.
      need (leb (rows c h + n) (half 4)) 6 c
      (next (wrote (put i 1 (rows c i) (replicate n (id_of x.plan h))) c)
      (λ c2. next (wrote (put i 2 (rows c2 i * 4) (counted_up 4 (rows c2 h) n)) c2)
      (λ c3. child h n c3))))

  -- "A nonempty null order adds one run and one null value"; "a run-end node asks its values before 7"
  unfoldable pub add_run : ℕ → ℕ → ℕ → List ℕ → Out
  add_run w i n c =
      next (child (suc (suc i)) 1 c)
      (λ c2. need (ltb (rows c2 i + n) (half w)) 7 c2
      (next (wrote (put (suc i) 1 (rows c2 (suc i) * w) (encode w (rows c2 i + n))) c2)
      (λ c3. done (begin_gap i (add_rows (suc i) 1 c3)))))

  -- it "lengthens the last run" and "asks the values for nothing"; 12 where there is no run, which no join has
  unfoldable pub grow_run : ℕ → ℕ → ℕ → List ℕ → Out
  grow_run w i n c =
      need (leb 1 (rows c (suc i))) 12 c
      (need (ltb (rows c i + n) (half w)) 7 c
      (wrote (amend (suc i) 1 ((rows c (suc i) - 1) * w) (encode w (rows c i + n))) c))

  unfoldable pub null_runs : ℕ → ℕ → List ℕ → Out
  null_runs i n c =
      need (ltb (suc (suc i)) 32 && is_width (bytes_of x.plan (suc i))) 12 c
      (cond (eqb (gap c i) 2) (grow_run (bytes_of x.plan (suc i)) i n c) (add_run (bytes_of x.plan (suc i)) i n c))

  unfoldable pub null_data : ℕ → ℕ → ℕ → List ℕ → Out
  null_data code i n c =
      cond (is_fixed code) (null_numbers x i 1 (bytes_of x.plan i) n c)
      (cond (is_string code) (null_string x i (bytes_of x.plan i) n c)
      (cond (is_view code) (null_numbers x i 1 16 n c)
      (cond (is_list_view code) (null_list_view (bytes_of x.plan i) i n c)
      (cond (is_list code) (null_list (bytes_of x.plan i) i n c)
      (cond (is_sparse code) (null_sparse i n c)
      (cond (is_dense code) (null_dense i n c)
      (cond (eqb code 23) (null_runs i n c)
      (fail 12 c))))))))

  -- "count 0 accepted" before anything else; then data, validity, and the rows counted
  unfoldable pub null_node : ℕ → ℕ → List ℕ → Out
  null_node i n c =
      cond (eqb n 0) (done c)
      (need (ltb i 32) 12 c
      (next (null_data (code_of x.plan i) i n c)
      (λ c2. next (cond (masked (code_of x.plan i)) (null_mask x i n c2) (count_nulls x i n c2))
      (λ c3. done (add_rows i n c3)))))

-- THE WALK OF NULLS, at most `depth` levels down
unfoldable pub null_walk : Join → ℕ → NullWalk
null_walk x zero i n c = fail 12 c
null_walk x (suc depth) i n c = null_node x (null_walk x depth) i n c
