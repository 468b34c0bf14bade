-- The log of an order of nulls has only entries at buffers that its nodes have. Assumes nothing.
use mathlib.Core.Path.{◌≡◌, refl}
use mathlib.Core.Bool.{true}
use mathlib.Core.List.{List}
use Prim.Native.Nat.{ℕ, zero, suc, ◌+◌, ◌*◌, ◌%◌, ◌<◌}
use native.Mathlib.Omega.{arith}
use lib.ListN.{replicate}
use lib.Dec.{ltb, eqb}
use borrow.Author.Tests.{ltb-true, eqb-true, eqb-false}
use Rattle.columnar.specs.Types.{half}
use Rattle.schema.specs.formats.Code.{is_fixed, is_string, is_view, is_list_view, is_list, is_union}
use Rattle.walk.specs.State.{Join, word, code_of, end_of, id_of, keeps_of, bytes_of, rows, gap, bytes}
use Rattle.walk.specs.Leaves.{null_mask, count_nulls, null_numbers, null_string}
use Rattle.walk.specs.Copy.{is_width, masked, each_field}
use Rattle.walk.specs.Nulls.{NullWalk, null_list_view, null_list, null_sparse, null_dense, add_run, grow_run, null_runs, null_data, null_node, null_walk}
use Rattle.refinement.specs.log_in_room.Room.{AllUsed}
use Rattle.refinement.specs.log_in_room.Reach.{sizes, positions, HasBuffer, Child, Closed, UsedAt}
use Rattle.refinement.proofs.log_in_room.Bytes.{bytes_encode, bytes_same, bytes_repeated, bytes_counted, bits_same}
use Rattle.refinement.proofs.log_in_room.Uses.{Uses, uses_put, uses_amend, uses_mask, uses_done, uses_fail, uses_cond, uses_need, uses_found, uses_next}
use Rattle.refinement.proofs.log_in_room.Found.{between_both, and_first, ends_code, child_first, child_later, child_nullable}
use Rattle.walk.proofs.Names.{null_fields}

module _ (x : Join) (In At : ℕ → Type 0) (closed : Closed x.plan In At) where
  abbrev U : ℕ → ℕ → Type 0
  U = UsedAt x.plan At

  id_byte : (h : ℕ) → id_of x.plan h < 256
  id_byte h = let e : word x.plan h 3 % 256 < 256 = omega arith in e

  module _ (i : ℕ) (small : i < 32) (here : At i) where
    uses_null_mask : (n : ℕ) (c : List ℕ) → code_of x.plan i < 21 → Uses U (null_mask x i n c)
    unfolding null_mask
    uses_null_mask n c h =
        uses_cond U (eqb (keeps_of x.plan i) 0) _ _ (λ e. uses_done U c)
        (λ e. uses_next U _ _ (uses_mask x.plan At i small here (rows c i) (replicate n 0) c (eqb-false (keeps_of x.plan i) 0 e, h) (bits_same n 0 (omega arith)))
        (λ c2. uses_done U _))

    uses_count : (n : ℕ) (c : List ℕ) → Uses U (count_nulls x i n c)
    unfolding count_nulls
    uses_count n c = uses_cond U (eqb (keeps_of x.plan i) 0) _ _ (λ e. uses_done U c) (λ e. uses_done U _)

    uses_zeros : (b w n : ℕ) (c : List ℕ) → HasBuffer x.plan i (suc b) → Uses U (null_numbers x i (suc b) w n c)
    unfolding null_numbers
    uses_zeros b w n c h = uses_put x.plan At i small here b (rows c i * w) (replicate (n * w) 0) c h (bytes_same (n * w) 0 (omega arith))

    uses_null_string : (w n : ℕ) (c : List ℕ) → HasBuffer x.plan i 1 → Uses U (null_string x i w n c)
    unfolding null_string
    uses_null_string w n c h = uses_put x.plan At i small here 0 (suc (rows c i) * w) _ c h (bytes_repeated w (bytes c i) n)

  module _ (walk : NullWalk) (below : (k n : ℕ) (c : List ℕ) → In k → Uses U (walk k n c)) (i : ℕ) (small : i < 32) (here : In i) where
    uses_null_views : (w n : ℕ) (c : List ℕ) → is_list_view (code_of x.plan i) ≡ true → Uses U (null_list_view x walk w i n c)
    unfolding null_list_view
    uses_null_views w n c h =
        let z = between_both 17 18 (code_of x.plan i) h in
        uses_next U _ _ (uses_zeros i small (closed.own i here) 0 w n c (omega (arith, z.0), omega (arith, z.1)))
        (λ c2. uses_zeros i small (closed.own i here) 1 w n c2 (refl, sizes h))

    uses_null_list : (w n : ℕ) (c : List ℕ) → is_list (code_of x.plan i) ≡ true → Uses U (null_list x walk w i n c)
    unfolding null_list
    uses_null_list w n c h =
        let z = between_both 19 20 (code_of x.plan i) h in
        uses_need U _ 12 c _
        (λ e. uses_put x.plan At i small (closed.own i here) 0 (suc (rows c i) * w) _ c (omega (arith, z.0), omega (arith, z.1)) (bytes_repeated w (rows c (suc i)) n))

    uses_null_fields : (n fuel k : ℕ) (c : List ℕ) → is_union (code_of x.plan i) ≡ true → (k < end_of x.plan i → Child x.plan i k)
        → Uses U (null_fields x walk n (end_of x.plan i) fuel k c)
    unfolding each_field
    uses_null_fields n zero k c h d = uses_done U c
    uses_null_fields n (suc fuel) k c h d =
        uses_cond U (ltb k (end_of x.plan i)) _ _
        (λ e. let f = d (ltb-true k (end_of x.plan i) e) in
        uses_next U _ _ (below k n c (closed.child i k here h f))
        (λ c2. uses_null_fields n fuel (end_of x.plan k) c2 h (child_later x.plan i k f)))
        (λ e. uses_done U c)

    module _ (union : is_union (code_of x.plan i) ≡ true) where
      union_code : HasBuffer x.plan i 1
      union_code = let z = between_both 21 22 (code_of x.plan i) union in (omega (arith, z.0), omega (arith, z.1))

      uses_null_sparse : (n : ℕ) (c : List ℕ) → Uses U (null_sparse x walk i n c)
      unfolding null_sparse
      uses_null_sparse n c =
          uses_found U 32 _ _ c _
          (λ l. uses_next U _ _ (uses_put x.plan At i small (closed.own i here) 0 (rows c i) _ c union_code (bytes_same n _ (id_byte _)))
          (λ c2. uses_null_fields n 32 (suc i) c2 union (child_first x.plan i)))

      uses_null_dense : (n : ℕ) (c : List ℕ) → code_of x.plan i ≡ 22 → Uses U (null_dense x walk i n c)
      unfolding null_dense
      uses_null_dense n c q =
          uses_found U 32 _ _ c _
          (λ l. uses_need U _ 6 c _
          (λ e. uses_next U _ _ (uses_put x.plan At i small (closed.own i here) 0 (rows c i) _ c union_code (bytes_same n _ (id_byte _)))
          (λ c2. uses_next U _ _ (uses_put x.plan At i small (closed.own i here) 1 _ _ c2 (refl, positions q) (bytes_counted 4 _ n))
          (λ c3. below _ n c3 (closed.child i _ here union (child_nullable x.plan i 32 (suc i) (child_first x.plan i) l))))))

    -- where a number is tested against their width, run ends have a buffer
    run_ends_lem : (v : ℕ) → ltb v (half (bytes_of x.plan (suc i))) ≡ true → HasBuffer x.plan (suc i) 1
    run_ends_lem v g = let z = ends_code v (code_of x.plan (suc i)) g in (z.0, omega (arith, z.1))

    uses_add_run : (n : ℕ) (c : List ℕ) → code_of x.plan i ≡ 23 → suc (suc i) < 32 → Uses U (add_run x walk (bytes_of x.plan (suc i)) i n c)
    unfolding add_run
    uses_add_run n c q s =
        uses_next U _ _ (below (suc (suc i)) 1 c (closed.values i here q))
        (λ c2. uses_need U (ltb (rows c2 i + n) (half (bytes_of x.plan (suc i)))) 7 c2 _
        (λ g. uses_next U _ _
        (uses_put x.plan At (suc i) (omega arith) (closed.ends i here q) 0 _ _ c2 (run_ends_lem (rows c2 i + n) g) (bytes_encode (bytes_of x.plan (suc i)) (rows c2 i + n)))
        (λ c3. uses_done U _)))

    uses_grow_run : (n : ℕ) (c : List ℕ) → code_of x.plan i ≡ 23 → suc (suc i) < 32 → Uses U (grow_run x walk (bytes_of x.plan (suc i)) i n c)
    unfolding grow_run
    uses_grow_run n c q s =
        uses_need U _ 12 c _
        (λ some. uses_need U (ltb (rows c i + n) (half (bytes_of x.plan (suc i)))) 7 c _
        (λ g. uses_amend x.plan At (suc i) (omega arith) (closed.ends i here q) 0 _ _ c (run_ends_lem (rows c i + n) g) (bytes_encode (bytes_of x.plan (suc i)) (rows c i + n))))

    uses_null_runs : (n : ℕ) (c : List ℕ) → code_of x.plan i ≡ 23 → Uses U (null_runs x walk i n c)
    unfolding null_runs
    uses_null_runs n c q =
        uses_need U _ 12 c _
        (λ e. let s = ltb-true (suc (suc i)) 32 (and_first _ (is_width (bytes_of x.plan (suc i))) e) in
        uses_cond U (eqb (gap c i) 2) _ _ (λ on. uses_grow_run n c q s) (λ off. uses_add_run n c q s))

    uses_null_data : (n : ℕ) (c : List ℕ) → Uses U (null_data x walk (code_of x.plan i) i n c)
    unfolding null_data
    uses_null_data n c =
        uses_cond U (is_fixed z) _ _
        (λ e. let b = between_both 1 10 z e in uses_zeros i small at 0 _ n c (b.0, omega (arith, b.1)))
        (λ e1. uses_cond U (is_string z) _ _
        (λ e. let b = between_both 11 14 z e in uses_null_string i small at _ n c (omega (arith, b.0), omega (arith, b.1)))
        (λ e2. uses_cond U (is_view z) _ _
        (λ e. let b = between_both 15 16 z e in uses_zeros i small at 0 16 n c (omega (arith, b.0), omega (arith, b.1)))
        (λ e3. uses_cond U (is_list_view z) _ _
        (λ e. uses_null_views _ n c e)
        (λ e4. uses_cond U (is_list z) _ _
        (λ e. uses_null_list _ n c e)
        (λ e5. uses_cond U (eqb z 21) _ _
        (λ e. uses_null_sparse (union 21 e refl) n c)
        (λ e6. uses_cond U (eqb z 22) _ _
        (λ e. uses_null_dense (union 22 e refl) n c (eqb-true z 22 e))
        (λ e7. uses_cond U (eqb z 23) _ _
        (λ e. uses_null_runs n c (eqb-true z 23 e))
        (λ e8. uses_fail U 12 c))))))))
      where
        z : ℕ
        z = code_of x.plan i

        at : At i
        at = closed.own i here

        union : (v : ℕ) → eqb z v ≡ true → is_union v ≡ true → is_union z ≡ true
        union v e h = rw (eqb-true z v e) h

  uses_null_node : (walk : NullWalk) (below : (k n : ℕ) (c : List ℕ) → In k → Uses U (walk k n c)) (i n : ℕ) (c : List ℕ) → In i → Uses U (null_node x walk i n c)
  unfolding null_node
  uses_null_node walk below i n c here =
      uses_cond U (eqb n 0) _ _ (λ e. uses_done U c)
      (λ e. uses_need U (ltb i 32) 12 c _
      (λ f. let small = ltb-true i 32 f in
      uses_next U _ _ (uses_null_data walk below i small here n c)
      (λ c2. uses_next U _ _
      (uses_cond U (masked (code_of x.plan i)) _ _ (λ g. uses_null_mask i small (closed.own i here) n c2 (ltb-true (code_of x.plan i) 21 g))
      (λ g. uses_count i small (closed.own i here) n c2))
      (λ c3. uses_done U _))))

  uses_null_walk : (depth i n : ℕ) (c : List ℕ) → In i → Uses U (null_walk x depth i n c)
  unfolding null_walk
  uses_null_walk zero i n c here = uses_fail U 12 c
  uses_null_walk (suc depth) i n c here = uses_null_node (null_walk x depth) (λ k m d h. uses_null_walk depth k m d h) i n c here

  -- NULLS are written only into buffers that their nodes have
  pub used_nulls : (depth i n : ℕ) (c : List ℕ) → In i → AllUsed (UsedAt x.plan At) (null_walk x depth i n c).log
  used_nulls depth i n c here = (uses_null_walk depth i n c here).log_used
