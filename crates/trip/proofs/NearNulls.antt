-- Orders from counters that agree in rows and bytes have the same answer, and leave such counters: nulls, as copies do
-- (sound/proofs/trying/Near.antt), and a step of a list. Assumes nothing.
use mathlib.Core.Path.{◌≡◌, refl, ap}
use mathlib.Core.Bool.{Bool, true, false, not, cond, ◌&&◌}
use mathlib.Core.List.{List}
use Prim.Native.Nat.{ℕ, zero, suc, ◌+◌, ◌*◌, ◌-◌, min}
use lib.Dec.{leb, ltb, eqb}
use Rattle.columnar.specs.Types.{half}
use Rattle.schema.specs.formats.Code.{is_fixed, is_string, is_view, is_list_view, is_list}
use Rattle.walk.specs.State.{Join, code_of, end_of, keeps_of, bytes_of, rows, gap, far, add_rows}
use Rattle.walk.specs.Log.{Out, fail, done, need, found, next}
use Rattle.walk.specs.Leaves.{null_mask, count_nulls, null_numbers, null_string}
use Rattle.walk.specs.Copy.{is_width, masked, each_field}
use Rattle.walk.specs.Nulls.{NullWalk, nullable_child, no_home, null_list_view, null_list, null_sparse, null_dense, add_run, grow_run, null_runs, null_data, null_node, null_walk}
use Rattle.plan.specs.parts.Parts.{parts_hold}
use Rattle.model.specs.Book.{Call, copy, nulls}
use Rattle.refinement.specs.orders.Order.{Lent, join_of, source_count, source_length}
use Rattle.sound.specs.trying.Alike.{Alike}
use Rattle.sound.proofs.trying.Laws.{alike_rows, alike_begun, alike_other, hold_alike}
use Rattle.sound.proofs.trying.Near.{Near, near_done, near_wrote, near_cond, near_need, near_next, near_copy}
use Rattle.trip.specs.Walk.{order_walk, order_step}
use Rattle.walk.proofs.Names.{null_fields}

near_fail : (g : ℕ) {c d : List ℕ} → Alike c d → Near (fail g c) (fail g d)
unfolding fail
near_fail g h = record { answer = refl; counters = h }

near_found : (m v g : ℕ) {c d : List ℕ} (k l : ℕ → Out) → Alike c d → Near (k v) (l v) → Near (found m v g c k) (found m v g d l)
unfolding found
near_found m v g k l h q = near_cond (ltb v m) q (near_fail g h)

module _ (x : Join) where
  -- ---- leaves

  module _ (i : ℕ) where
    near_mask : (n : ℕ) {c d : List ℕ} → Alike c d → Near (null_mask x i n c) (null_mask x i n d)
    unfolding null_mask
    near_mask n h = near_cond (eqb (keeps_of x.plan i) 0) (near_done h) (near_next _ _ (near_wrote _ _ h) (λ c2 d2 g. near_done (alike_other g i _ _)))

    near_count : (n : ℕ) {c d : List ℕ} → Alike c d → Near (count_nulls x i n c) (count_nulls x i n d)
    unfolding count_nulls
    near_count n h = near_cond (eqb (keeps_of x.plan i) 0) (near_done h) (near_done (alike_other h i _ _))

    near_numbers : (b w n : ℕ) {c d : List ℕ} → Alike c d → Near (null_numbers x i b w n c) (null_numbers x i b w n d)
    unfolding null_numbers
    near_numbers b w n h = near_wrote _ _ h

    near_string : (w n : ℕ) {c d : List ℕ} → Alike c d → Near (null_string x i w n c) (null_string x i w n d)
    unfolding null_string
    near_string w n h = near_wrote _ _ h

  -- ---- nodes with children

  module _ (walk : NullWalk) (below : (k n : ℕ) (c d : List ℕ) → Alike c d → Near (walk k n c) (walk k n d)) (i : ℕ) where
    near_list_view : (w n : ℕ) {c d : List ℕ} → Alike c d → Near (null_list_view x walk w i n c) (null_list_view x walk w i n d)
    unfolding null_list_view
    near_list_view w n h = near_next _ _ (near_numbers i 1 w n h) (λ c2 d2 g. near_numbers i 2 w n g)

    near_list : (w n : ℕ) {c d : List ℕ} → Alike c d → Near (null_list x walk w i n c) (null_list x walk w i n d)
    unfolding null_list
    near_list w n h = near_need refl 12 h (near_wrote _ _ h)

    near_fields : (n end f k : ℕ) {c d : List ℕ} → Alike c d → Near (null_fields x walk n end f k c) (null_fields x walk n end f k d)
    unfolding each_field
    near_fields n end zero k h = near_done h
    near_fields n end (suc f) k h = near_cond (ltb k end) (near_next _ _ (below k n _ _ h) (λ c2 d2 g. near_fields n end f (end_of x.plan k) g)) (near_done h)

    near_sparse : (n : ℕ) {c d : List ℕ} → Alike c d → Near (null_sparse x walk i n c) (null_sparse x walk i n d)
    unfolding null_sparse
    near_sparse n h = near_found 32 _ _ _ _ h (near_next _ _ (near_wrote _ _ h) (λ c2 d2 g. near_fields n (end_of x.plan i) 32 (suc i) g))

    near_dense : (n : ℕ) {c d : List ℕ} → Alike c d → Near (null_dense x walk i n c) (null_dense x walk i n d)
    unfolding null_dense
    near_dense n h =
        near_found 32 _ _ _ _ h
        (near_need (ap (λ v. leb (v + n) (half 4)) (h.rows_same _)) 6 h
        (near_next _ _ (near_wrote _ _ h) (λ c2 d2 g. near_next _ _ (near_wrote _ _ g) (λ c3 d3 q. below _ n c3 d3 q))))

    near_add : (w n : ℕ) {c d : List ℕ} → Alike c d → Near (add_run x walk w i n c) (add_run x walk w i n d)
    unfolding add_run
    near_add w n h =
        near_next _ _ (below (suc (suc i)) 1 _ _ h)
        (λ c2 d2 g. near_need (ap (λ v. ltb (v + n) (half w)) (g.rows_same i)) 7 g
        (near_next _ _ (near_wrote _ _ g) (λ c3 d3 q. near_done (alike_begun (alike_rows q (suc i) 1) i))))

    near_grow : (w n : ℕ) {c d : List ℕ} → Alike c d → Near (grow_run x walk w i n c) (grow_run x walk w i n d)
    unfolding grow_run
    near_grow w n h =
        near_need (ap (leb 1) (h.rows_same (suc i))) 12 h (near_need (ap (λ v. ltb (v + n) (half w)) (h.rows_same i)) 7 h (near_wrote _ _ h))

    near_runs : (n : ℕ) {c d : List ℕ} → Alike c d → Near (null_runs x walk i n c) (null_runs x walk i n d)
    unfolding null_runs
    near_runs n {c} {d} h =
        near_need refl 12 h
        (rw (ap (λ v. eqb v 2) (h.bytes_same i))
        (near_cond (eqb (gap d i) 2) (near_grow (bytes_of x.plan (suc i)) n h) (near_add (bytes_of x.plan (suc i)) n h)))

    near_data : (code n : ℕ) {c d : List ℕ} → Alike c d → Near (null_data x walk code i n c) (null_data x walk code i n d)
    unfolding null_data
    near_data code n h =
        near_cond (is_fixed code) (near_numbers i 1 _ n h)
        (near_cond (is_string code) (near_string i _ n h)
        (near_cond (is_view code) (near_numbers i 1 16 n h)
        (near_cond (is_list_view code) (near_list_view _ n h)
        (near_cond (is_list code) (near_list _ n h)
        (near_cond (eqb code 21) (near_sparse n h)
        (near_cond (eqb code 22) (near_dense n h)
        (near_cond (eqb code 23) (near_runs n h)
        (near_fail 12 h))))))))

    near_node : (n : ℕ) {c d : List ℕ} → Alike c d → Near (null_node x walk i n c) (null_node x walk i n d)
    unfolding null_node
    near_node n h =
        near_cond (eqb n 0) (near_done h)
        (near_need refl 12 h
        (near_next _ _ (near_data (code_of x.plan i) n h)
        (λ c2 d2 g. near_next _ _ (near_cond (masked (code_of x.plan i)) (near_mask i n g) (near_count i n g)) (λ c3 d3 k. near_done (alike_rows k i n)))))

  -- NULLS ANSWER ALIKE, whatever nulls are counted
  pub near_nulls : (depth i n : ℕ) {c d : List ℕ} → Alike c d → Near (null_walk x depth i n c) (null_walk x depth i n d)
  unfolding null_walk
  near_nulls zero i n h = near_fail 12 h
  near_nulls (suc depth) i n h = near_node (null_walk x depth) (λ k m c1 d1 g. near_nulls depth k m g) i n h

module _ (x : Lent) where
  near_walk : (o : Call) {c d : List ℕ} → Alike c d → Near (order_walk x o c) (order_walk x o d)
  unfolding order_walk
  near_walk (copy s a e) h = near_need refl 1 h (near_need refl 2 h (near_copy (join_of x s) 8 0 a (e - a) h))
  near_walk (nulls n) h = near_need refl 3 h (near_nulls (join_of x 0) 8 0 (min n far) h)

  -- A STEP ANSWERS ALIKE
  pub near_step : (ask within : Bool) (o : Call) {c d : List ℕ} → Alike c d → Near (order_step x ask within o c) (order_step x ask within o d)
  unfolding order_step
  near_step ask within o h =
      near_next _ _ (near_walk o h)
      (λ c2 d2 g. near_cond ask (near_need refl 14 g (near_need (hold_alike x.plan x.parts g) 13 g (near_done g))) (near_done g))
