-- An order of nulls only adds. Assumes nothing.
use mathlib.Core.Path.{◌≡◌, refl, ◌∙◌}
use mathlib.Core.Bool.{Bool, true, false, cond}
use mathlib.Core.List.{List}
use Prim.Native.Nat.{ℕ, zero, suc, ◌+◌, ◌*◌, ◌<◌}
use native.Mathlib.Nat.{mul_comm, one-mul, le_of_eq}
use native.Mathlib.Omega.{arith}
use lib.ListN.{length, replicate, length-replicate}
use lib.Dec.{ltb, eqb}
use borrow.Author.Tests.{ltb-true, leb-true, eqb-true, eqb-false}
use Rattle.number.specs.Number.{encode}
use Rattle.number.proofs.Laws.{length_encode}
use Rattle.schema.specs.formats.Code.{is_fixed, is_string, is_view, is_list_view, is_list, is_union}
use Rattle.utils.specs.Offsets.{repeated, counted_up}
use Rattle.utils.proofs.Pieces.{length_numbers}
use Rattle.walk.specs.State.{Join, code_of, end_of, keeps_of, id_of, bytes_of, rows, bytes, gap, add_rows, begin_gap}
use Rattle.walk.specs.Log.{put, mask, Out, fail, done, wrote, next}
use Rattle.walk.specs.Leaves.{null_mask, count_nulls, null_numbers, null_string}
use Rattle.walk.specs.Copy.{is_width, masked, each_field}
use Rattle.walk.specs.Nulls.{NullWalk, nullable_child, no_home, null_list_view, null_list, null_sparse, null_dense, add_run, grow_run, null_runs, null_data, null_node, null_walk}
use Rattle.refinement.specs.log_in_room.Reach.{Child, Closed}
use Rattle.refinement.proofs.log_in_room.Found.{and_first, child_first, child_later, child_nullable}
use Rattle.plan.specs.parts.Parts.{needed_by}
use Rattle.refinement.proofs.orders.Buffers.{needed_fixed, needed_offsets, needed_views, needed_starts, needed_sizes, needed_ends}
use Rattle.refinement.proofs.orders.Grows.{Adds, behind_rows, behind_all, behind_offsets, behind_bits, over_last, adds_done, adds_done_two, adds_gap, adds_nulls, adds_fail, adds_never, adds_wrote, adds_cond, adds_need, adds_found, adds_next, adds_whole, adds_close, adds_close_two}
use Rattle.walk.proofs.Names.{null_fields}

same : (n v : ℕ) → length (replicate n v) ≡ n
same n v = length-replicate n v

repeated_all : (w v n : ℕ) → length (repeated w v n) ≡ w * n
unfolding repeated
repeated_all w v n = length_numbers w _ n

counted_all : (w v n : ℕ) → length (counted_up w v n) ≡ w * n
unfolding counted_up
counted_all w v n = length_numbers w _ n

module _ (x : Join) (In At : ℕ → Type 0) (closed : Closed x.plan In At) (run_ends_lem : (i : ℕ) → In i → code_of x.plan i ≡ 23 → is_fixed (code_of x.plan (suc i)) ≡ true) (late : Bool) where
  abbrev S : List ℕ
  S = x.plan

  module _ (i n : ℕ) (small : i < 32) where
    adds_null_mask : (c : List ℕ) → (code_of S i ≡ 0 → ⊥) → Adds S late i n c (null_mask x i n c)
    unfolding null_mask
    adds_null_mask c q =
        adds_cond S late i n c (eqb (keeps_of S i) 0) _ _ (λ e. adds_done S late i n c)
        (λ e. adds_next S late i n c _ _ (adds_wrote S late i n (mask i (rows c i) (replicate n 0)) c (behind_bits S late i n (replicate n 0) c (le_of_eq (same n 0)) q)) (λ c2. adds_nulls S late i n i n c2 small))

    adds_count : (c : List ℕ) → Adds S late i n c (count_nulls x i n c)
    unfolding count_nulls
    adds_count c = adds_cond S late i n c (eqb (keeps_of S i) 0) _ _ (λ e. adds_done S late i n c) (λ e. adds_nulls S late i n i n c small)

    adds_zeros : (b w : ℕ) (c : List ℕ) → ((k m : ℕ) → needed_by (code_of S i) k m b ≡ k * w) → Adds S late i n c (null_numbers x i b w n c)
    unfolding null_numbers
    adds_zeros b w c h = adds_wrote S late i n (put i b (rows c i * w) (replicate (n * w) 0)) c (behind_all S late i n b w (replicate (n * w) 0) c h (le_of_eq (same (n * w) 0)))

    adds_null_string : (c : List ℕ) → is_string (code_of S i) ≡ true → Adds S late i n c (null_string x i (bytes_of S i) n c)
    unfolding null_string
    adds_null_string c h =
        adds_wrote S late i n _ c
        (behind_offsets S late i n (bytes_of S i) (repeated (bytes_of S i) (bytes c i) n) c (λ k m. needed_offsets (code_of S i) k m h) (repeated_all (bytes_of S i) (bytes c i) n))

  module _ (walk : NullWalk) (below : (k n : ℕ) (c : List ℕ) → In k → Adds S late k 0 c (walk k n c)) (i n : ℕ) (small : i < 32) (here : In i) where
    kid : (k m : ℕ) (c : List ℕ) → In k → Adds S late i n c (walk k m c)
    kid k m c h = adds_whole S late i n k c (walk k m c) (below k m c h)

    adds_null_list_view : (c : List ℕ) → is_list_view (code_of S i) ≡ true → Adds S late i n c (null_list_view x walk (bytes_of S i) i n c)
    unfolding null_list_view
    adds_null_list_view c h =
        adds_next S late i n c _ _ (adds_zeros i n small 1 (bytes_of S i) c (λ k m. needed_starts (code_of S i) k m h))
        (λ c2. adds_zeros i n small 2 (bytes_of S i) c2 (λ k m. needed_sizes (code_of S i) k m h))

    adds_null_list : (c : List ℕ) → is_list (code_of S i) ≡ true → Adds S late i n c (null_list x walk (bytes_of S i) i n c)
    unfolding null_list
    adds_null_list c h =
        adds_need S late i n _ 12 c _ (omega arith)
        (λ e. adds_wrote S late i n _ c
        (behind_offsets S late i n (bytes_of S i) (repeated (bytes_of S i) (rows c (suc i)) n) c (λ k m. needed_ends (code_of S i) k m h) (repeated_all (bytes_of S i) (rows c (suc i)) n)))

    adds_null_fields : (m fuel k : ℕ) (c : List ℕ) → is_union (code_of S i) ≡ true → (k < end_of S i → Child S i k) → Adds S late i n c (null_fields x walk m (end_of S i) fuel k c)
    unfolding each_field
    adds_null_fields m zero k c h d = adds_done S late i n c
    adds_null_fields m (suc fuel) k c h d =
        adds_cond S late i n c (ltb k (end_of S i)) _ _
        (λ e. let f = d (ltb-true k (end_of S i) e) in
        adds_next S late i n c _ _ (kid k m c (closed.child i k here h f)) (λ c2. adds_null_fields m fuel (end_of S k) c2 h (child_later S i k f)))
        (λ e. adds_done S late i n c)

    -- 4 or 5
    some_ground : 0 < no_home S i
    some_ground = go (ltb (suc i) (end_of S i))
      where
        go : (b : Bool) → 0 < cond b 5 4
        go true = omega arith
        go false = omega arith

    ids : (c : List ℕ) (v : ℕ) → is_union (code_of S i) ≡ true → ((k m : ℕ) → needed_by (code_of S i) k m 1 ≡ k * 1) → Adds S late i n c (wrote (put i 1 (rows c i) (replicate n v)) c)
    ids c v u h = adds_wrote S late i n _ c (behind_rows S late i n 1 1 0 n (rows c i) (replicate n v) c h (omega arith) (let l = same n v in omega arith) (omega arith))

    adds_null_sparse : (c : List ℕ) → code_of S i ≡ 21 → is_union (code_of S i) ≡ true → Adds S late i n c (null_sparse x walk i n c)
    unfolding null_sparse
    adds_null_sparse c q u =
        adds_found S late i n 32 _ _ c _ some_ground
        (λ l. adds_next S late i n c _ _ (ids c _ u (λ k m. rw q refl)) (λ c2. adds_null_fields n 32 (suc i) c2 u (child_first S i)))

    adds_null_dense : (c : List ℕ) → code_of S i ≡ 22 → is_union (code_of S i) ≡ true → Adds S late i n c (null_dense x walk i n c)
    unfolding null_dense
    adds_null_dense c q u =
        adds_found S late i n 32 _ _ c _ some_ground
        (λ l. adds_need S late i n _ 6 c _ (omega arith)
        (λ e. adds_next S late i n c _ _ (ids c _ u (λ k m. rw q refl))
        (λ c2. adds_next S late i n c2 _ _ (adds_wrote S late i n _ c2 (behind_all S late i n 2 4 (counted_up 4 _ n) c2 (λ k m. rw q refl) (le_of_eq (counted_all 4 _ n ∙ mul_comm 4 n))))
        (λ c3. kid _ n c3 (closed.child i _ here u (child_nullable S i 32 (suc i) (child_first S i) l))))))

    adds_add_run : (c : List ℕ) → code_of S i ≡ 23 → suc (suc i) < 32 → Adds S late i n c (add_run x walk (bytes_of S (suc i)) i n c)
    unfolding add_run
    adds_add_run c q s =
        adds_next S late i n c _ _ (kid (suc (suc i)) 1 c (closed.values i here q))
        (λ c2. adds_need S late i n _ 7 c2 _ (omega arith)
        (λ g. adds_done_two S late i n c2 _ (λ d. add_rows (suc i) 1 d) (λ d. begin_gap i d)
        (adds_whole S late i n (suc i) c2 _
        (adds_close S late (suc i) 1 c2 _ (omega arith)
        (adds_wrote S late (suc i) 1 _ c2 (behind_all S late (suc i) 1 1 (bytes_of S (suc i)) (encode (bytes_of S (suc i)) (rows c2 i + n)) c2 (λ k m. needed_fixed (code_of S (suc i)) k m (run_ends_lem i here q))
        (let l = length_encode (bytes_of S (suc i)) (rows c2 i + n) in let o = one-mul (bytes_of S (suc i)) in omega arith)))))
        (λ d. adds_gap S late i n i (cond (eqb (gap d i) 0) 0 2) d small q (λ l z. rw z))))

    adds_grow_run : (c : List ℕ) → code_of S i ≡ 23 → gap c i ≡ 2 → Adds S late i n c (grow_run x walk (bytes_of S (suc i)) i n c)
    unfolding grow_run
    adds_grow_run c q on =
        adds_need S late i n _ 12 c _ (omega arith)
        (λ e. adds_need S late i n _ 7 c _ (omega arith)
        (λ g. adds_wrote S late i n _ c
        (over_last S late i n (rows c i + n) c q (λ l z. let y : gap c i ≡ 2 = on in let x : gap c i ≡ 0 = z in omega arith) (leb-true 1 (rows c (suc i)) e)
        (λ k m. needed_fixed (code_of S (suc i)) k m (run_ends_lem i here q)))))

    adds_null_runs : (c : List ℕ) → code_of S i ≡ 23 → Adds S late i n c (null_runs x walk i n c)
    unfolding null_runs
    adds_null_runs c q =
        adds_need S late i n _ 12 c _ (omega arith)
        (λ e. let s = ltb-true (suc (suc i)) 32 (and_first _ (is_width (bytes_of S (suc i))) e) in
        adds_cond S late i n c (eqb (gap c i) 2) _ _ (λ on. adds_grow_run c q (eqb-true (gap c i) 2 on)) (λ off. adds_add_run c q s))

    union : (v : ℕ) → eqb (code_of S i) v ≡ true → is_union v ≡ true → is_union (code_of S i) ≡ true
    union v e h = rw (eqb-true (code_of S i) v e) h

    adds_null_data : (c : List ℕ) → Adds S late i n c (null_data x walk (code_of S i) i n c)
    unfolding null_data
    adds_null_data c =
        adds_cond S late i n c (is_fixed (code_of S i)) _ _ (λ e. adds_zeros i n small 1 (bytes_of S i) c (λ k m. needed_fixed (code_of S i) k m e))
        (λ e1. adds_cond S late i n c (is_string (code_of S i)) _ _ (λ e. adds_null_string i n small c e)
        (λ e2. adds_cond S late i n c (is_view (code_of S i)) _ _ (λ e. adds_zeros i n small 1 16 c (λ k m. needed_views (code_of S i) k m e))
        (λ e3. adds_cond S late i n c (is_list_view (code_of S i)) _ _ (λ e. adds_null_list_view c e)
        (λ e4. adds_cond S late i n c (is_list (code_of S i)) _ _ (λ e. adds_null_list c e)
        (λ e5. adds_cond S late i n c (eqb (code_of S i) 21) _ _ (λ e. adds_null_sparse c (eqb-true (code_of S i) 21 e) (union 21 e refl))
        (λ e6. adds_cond S late i n c (eqb (code_of S i) 22) _ _ (λ e. adds_null_dense c (eqb-true (code_of S i) 22 e) (union 22 e refl))
        (λ e7. adds_cond S late i n c (eqb (code_of S i) 23) _ _ (λ e. adds_null_runs c (eqb-true (code_of S i) 23 e))
        (λ e8. adds_fail S late i n 12 c (omega arith)))))))))

  -- a node of no code is refused
  no_code : (walk : NullWalk) (i n : ℕ) (c : List ℕ) (k : List ℕ → Out) → code_of S i ≡ 0 → (next (null_data x walk (code_of S i) i n c) k).ans ≡ 12
  unfolding null_data next fail
  no_code walk i n c k e = rw e

  adds_null_rows : (walk : NullWalk) (below : (k n : ℕ) (c : List ℕ) → In k → Adds S late k 0 c (walk k n c)) (i n : ℕ) (c : List ℕ) → i < 32 → In i
      → Adds S late i 0 c (next (null_data x walk (code_of S i) i n c) (λ c2. next (cond (masked (code_of S i)) (null_mask x i n c2) (count_nulls x i n c2)) (λ c3. done (add_rows i n c3))))
  adds_null_rows walk below i n c small here = go (eqb (code_of S i) 0) refl
    where
      go : (b : Bool) → eqb (code_of S i) 0 ≡ b
          → Adds S late i 0 c (next (null_data x walk (code_of S i) i n c) (λ c2. next (cond (masked (code_of S i)) (null_mask x i n c2) (count_nulls x i n c2)) (λ c3. done (add_rows i n c3))))
      go true e = adds_never S late i 0 c _ (λ h. let z = no_code walk i n c (λ c2. next (cond (masked (code_of S i)) (null_mask x i n c2) (count_nulls x i n c2)) (λ c3. done (add_rows i n c3))) (eqb-true (code_of S i) 0 e) in omega arith)
      go false e =
          adds_close_two S late i n c _ _ small (adds_null_data walk below i n small here c)
          (λ c2. adds_cond S late i n c2 (masked (code_of S i)) _ _ (λ g. adds_null_mask i n small c2 (eqb-false (code_of S i) 0 e)) (λ g. adds_count i n small c2))

  adds_null_node : (walk : NullWalk) (below : (k n : ℕ) (c : List ℕ) → In k → Adds S late k 0 c (walk k n c)) (i n : ℕ) (c : List ℕ) → In i → Adds S late i 0 c (null_node x walk i n c)
  unfolding null_node
  adds_null_node walk below i n c here =
      adds_cond S late i 0 c (eqb n 0) _ _ (λ e. adds_done S late i 0 c)
      (λ e. adds_need S late i 0 (ltb i 32) 12 c _ (omega arith)
      (λ f. adds_null_rows walk below i n c (ltb-true i 32 f) here))

  -- NULLS ONLY ADD
  pub adds_fills : (depth i n : ℕ) (c : List ℕ) → In i → Adds S late i 0 c (null_walk x depth i n c)
  unfolding null_walk
  adds_fills zero i n c here = adds_fail S late i 0 12 c (omega arith)
  adds_fills (suc depth) i n c here = adds_null_node (null_walk x depth) (λ k m d h. adds_fills depth k m d h) i n c here
