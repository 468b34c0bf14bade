-- The log of a copy has only entries at buffers that its nodes have. Assumes nothing.
use mathlib.Core.Path.{◌≡◌, refl}
use mathlib.Core.Bool.{true}
use mathlib.Core.List.{List}
use Prim.Native.Nat.{ℕ, zero, suc, ◌+◌, ◌*◌, ◌-◌, ◌<◌}
use native.Mathlib.Omega.{arith}
use lib.ListN.{take, drop, replicate}
use lib.Dec.{ltb, eqb}
use borrow.Author.Tests.{ltb-true, eqb-true, eqb-false}
use Rattle.bits.specs.Bits.{bits_at}
use Rattle.columnar.specs.Types.{half}
use Rattle.schema.specs.formats.Code.{is_fixed, is_string, is_view, is_list_view, is_list, is_union}
use Rattle.utils.specs.Offsets.{moved_offsets}
use Rattle.utils.specs.Extension.{extended}
use Rattle.utils.specs.declared.Extended.{Extended}
use Rattle.utils.specs.declared.Extended.TheVariants.{Fits, Over, Falls}
use Rattle.std.specs.Prelude.{Option, Some, None}
use Rattle.run_ends.specs.declared.RunRange.{RunRange}
use Rattle.walk.specs.State.{Join, code_of, dictionary_of, end_of, keeps_of, base_of, bytes_of, rows, bytes, place, far}
use Rattle.walk.specs.Leaves.{copy_bits, copy_mask, copy_numbers, copy_keys, copy_views, put_string, put_extended, copy_string}
use Rattle.walk.specs.Copy.{Walk, is_width, masked, list_view_row, copy_list_view, put_stretch, copy_list, copy_sparse, id_at, dense_to, dense_row, copy_dense, put_runs, runs_at, copy_runs, copy_data, copy_slots, copy_node, copy_walk, each_field}
use Rattle.refinement.specs.log_in_room.Room.{AllBelow, AllUsed}
use Rattle.refinement.specs.log_in_room.Reach.{Second, chars, sizes, positions, HasBuffer, Child, Closed, UsedAt}
use Rattle.refinement.proofs.log_in_room.Bytes.{bytes_encode, bytes_one, bytes_part, bytes_moved, bytes_rebased, bytes_reviewed, bytes_clipped, bits_part, bits_same}
use Rattle.refinement.proofs.log_in_room.Uses.{Uses, uses_put, uses_mask, uses_done, uses_fail, uses_cond, uses_need, uses_found, uses_next, uses_each}
use Rattle.refinement.proofs.log_in_room.Found.{between_both, between_wide, and_first, ends_code, child_first, child_later, child_with_lem}
use Rattle.walk.proofs.Names.{put_list, copy_fields}
use Rattle.walk.proofs.Offsets.{string_is, list_is}

module _ (x : Join) (In At : ℕ → Type 0) (closed : Closed x.plan In At) (body : AllBelow 256 x.body) where
  abbrev U : ℕ → ℕ → Type 0
  U = UsedAt x.plan At

  -- ---- a node without children

  module _ (i : ℕ) (small : i < 32) (here : At i) where
    uses_copy_mask : (slot n : ℕ) (c : List ℕ) → code_of x.plan i < 21 → Uses U (copy_mask x i slot n c)
    unfolding copy_mask copy_bits
    uses_copy_mask slot n c h =
        uses_cond U (eqb (keeps_of x.plan i) 0) _ _ (λ e. uses_done U c)
        (λ e. uses_cond U (eqb (place x i 0) 0) _ _ (λ f. uses_mask x.plan At i small here (rows c i) (replicate n 1) c (eqb-false (keeps_of x.plan i) 0 e, h) (bits_same n 1 (omega arith)))
        (λ f. uses_need U _ 12 c _
        (λ g. uses_next U _ _ (uses_mask x.plan At i small here (rows c i) (bits_at (8 * place x i 1 + slot) n x.body) c (eqb-false (keeps_of x.plan i) 0 e, h) (bits_part (8 * place x i 1 + slot) n x.body))
        (λ c2. uses_done U _))))

    module _ (code : HasBuffer x.plan i 1) where
      uses_numbers : (w slot n : ℕ) (c : List ℕ) → Uses U (copy_numbers x i w slot n c)
      unfolding copy_numbers
      uses_numbers w slot n c = uses_need U _ 12 c _ (λ e. uses_put x.plan At i small here 0 (rows c i * w) _ c code (bytes_part (place x i 3 + w * slot) (w * n) x.body body))

      uses_keys : (w slot n : ℕ) (c : List ℕ) → Uses U (copy_keys x i w slot n c)
      unfolding copy_keys
      uses_keys w slot n c = uses_need U _ 12 c _ (λ e. uses_put x.plan At i small here 0 (rows c i * w) _ c code (bytes_rebased w x.body (place x i 3 + w * slot) (base_of x.plan x.source i) n))

      uses_views : (slot n : ℕ) (c : List ℕ) → Uses U (copy_views x i slot n c)
      unfolding copy_views
      uses_views slot n c = uses_need U _ 12 c _ (λ e. uses_put x.plan At i small here 0 (rows c i * 16) _ c code (bytes_reviewed x.body (place x i 3 + 16 * slot) (base_of x.plan x.source i) n body))

      uses_extended : (w from n : ℕ) (e : Extended) (c : List ℕ) → Second (code_of x.plan i) → Uses U (put_extended x i w from n e c)
      unfolding put_string
      uses_extended w from n (Fits last first) c s =
          uses_need U _ 12 c _
          (λ e. uses_next U _ _ (uses_put x.plan At i small here 0 (suc (rows c i) * w) (moved_offsets w x.body from (bytes c i) n) c code (bytes_moved w x.body from (bytes c i) n))
          (λ c2. uses_next U _ _ (uses_put x.plan At i small here 1 (bytes c2 i) (take (last - bytes c2 i) (drop (place x i 5 + first) x.body)) c2 (refl, s) (bytes_part (place x i 5 + first) (last - bytes c2 i) x.body body))
          (λ c3. uses_done U _)))
      uses_extended w from n (Over row needed) c s = uses_fail U 6 c
      uses_extended w from n Falls c s = uses_fail U 12 c

      uses_string : (w slot n : ℕ) (c : List ℕ) → Second (code_of x.plan i) → Uses U (copy_string x i w slot n c)
      uses_string w slot n c s =
          rw (string_is x i w slot n c)
          (uses_cond U (eqb n 0) _ _ (λ e. uses_done U c) (λ e. uses_need U _ 12 c _ (λ f. uses_extended w (place x i 3 + w * slot) n (extended w x.body (place x i 3 + w * slot) n (bytes c i)) c s)))

  -- ---- a node with children: `walk` is the walk of the nodes below it

  module _ (walk : Walk) (below : (k a n : ℕ) (c : List ℕ) → In k → Uses U (walk k a n c)) (i : ℕ) (small : i < 32) (here : In i) where
    uses_list_view : (w slot n : ℕ) (c : List ℕ) → is_list_view (code_of x.plan i) ≡ true → Uses U (copy_list_view x walk w i slot n c)
    unfolding copy_list_view list_view_row
    uses_list_view w slot n c h =
        let z = between_both 17 18 (code_of x.plan i) h in
        let code : HasBuffer x.plan i 1 = (omega (arith, z.0), omega (arith, z.1)) in
        uses_need U _ 12 c _
        (λ e. uses_need U _ 12 c _
        (λ f. uses_each U _
        (λ r c1. uses_need U _ 6 c1 _
        (λ g. uses_next U _ _ (uses_put x.plan At i small (closed.own i here) 0 _ _ c1 code (bytes_encode w _))
        (λ c2. uses_next U _ _ (uses_put x.plan At i small (closed.own i here) 1 _ _ c2 (refl, sizes h) (bytes_encode w _))
        (λ c3. below (suc i) _ _ c3 (closed.item i here (between_wide 17 18 17 20 (code_of x.plan i) (omega arith) (omega arith) h))))))
        n 0 c))

    uses_stretch : (w from n : ℕ) (e : Extended) (c : List ℕ) → is_list (code_of x.plan i) ≡ true → Uses U (put_list x walk w i from n e c)
    unfolding put_stretch
    uses_stretch w from n (Fits last start) c h =
        let z = between_both 19 20 (code_of x.plan i) h in
        uses_next U _ _ (uses_put x.plan At i small (closed.own i here) 0 _ _ c (omega (arith, z.0), omega (arith, z.1)) (bytes_moved w x.body from (rows c (suc i)) n))
        (λ c2. below (suc i) start _ c2 (closed.item i here (between_wide 19 20 17 20 (code_of x.plan i) (omega arith) (omega arith) h)))
    uses_stretch w from n (Over row needed) c h = uses_fail U 6 c
    uses_stretch w from n Falls c h = uses_fail U 12 c

    uses_list : (w slot n : ℕ) (c : List ℕ) → is_list (code_of x.plan i) ≡ true → Uses U (copy_list x walk w i slot n c)
    uses_list w slot n c h =
        rw (list_is x walk w i slot n c)
        (uses_cond U (eqb n 0) _ _ (λ e. uses_done U c)
        (λ e. uses_need U _ 12 c _
        (λ f. uses_need U _ 12 c _
        (λ g. uses_stretch w (place x i 3 + w * slot) n (extended w x.body (place x i 3 + w * slot) n (rows c (suc i))) c h))))

    uses_fields : (slot n fuel k : ℕ) (c : List ℕ) → is_union (code_of x.plan i) ≡ true → (k < end_of x.plan i → Child x.plan i k)
        → Uses U (copy_fields x walk slot n (end_of x.plan i) fuel k c)
    unfolding each_field
    uses_fields slot n zero k c h d = uses_done U c
    uses_fields slot n (suc fuel) k c h d =
        uses_cond U (ltb k (end_of x.plan i)) _ _
        (λ e. let f = d (ltb-true k (end_of x.plan i) e) in
        uses_next U _ _ (below k slot n c (closed.child i k here h f))
        (λ c2. uses_fields slot n fuel (end_of x.plan k) c2 h (child_later x.plan i k f)))
        (λ e. uses_done U c)

    module _ (union : is_union (code_of x.plan i) ≡ true) where
      union_code : HasBuffer x.plan i 1
      union_code = let z = between_both 21 22 (code_of x.plan i) union in (omega (arith, z.0), omega (arith, z.1))

      uses_sparse : (slot n : ℕ) (c : List ℕ) → Uses U (copy_sparse x walk i slot n c)
      unfolding copy_sparse
      uses_sparse slot n c =
          uses_need U _ 12 c _
          (λ e. uses_next U _ _ (uses_put x.plan At i small (closed.own i here) 0 (rows c i) _ c union_code (bytes_part (place x i 3 + slot) n x.body body))
          (λ c2. uses_fields slot n 32 (suc i) c2 union (child_first x.plan i)))

      uses_dense : (slot n : ℕ) (c : List ℕ) → code_of x.plan i ≡ 22 → Uses U (copy_dense x walk i slot n c)
      unfolding copy_dense dense_row dense_to
      uses_dense slot n c q =
          uses_need U _ 12 c _
          (λ e. uses_each U _
          (λ r c1. uses_found U 32 _ 12 c1 _
          (λ l. uses_need U _ 6 c1 _
          (λ g. uses_next U _ _ (uses_put x.plan At i small (closed.own i here) 0 _ _ c1 union_code (bytes_one (id_at x walk i (slot + r)) (body (place x i 3 + (slot + r)))))
          (λ c2. uses_next U _ _ (uses_put x.plan At i small (closed.own i here) 1 _ _ c2 (refl, positions q) (bytes_encode 4 _))
          (λ c3. below _ _ 1 c3 (closed.child i _ here union (child_with_lem x.plan i (id_at x walk i (slot + r)) 32 (suc i) (child_first x.plan i) l)))))))
          n 0 c)

    uses_runs_put : (w slot n : ℕ) (r : Option RunRange) (c : List ℕ) → code_of x.plan i ≡ 23 → suc (suc i) < 32 → HasBuffer x.plan (suc i) 1 → Uses U (put_runs x walk w i slot n r c)
    uses_runs_put w slot n None c q s h = uses_fail U 12 c
    uses_runs_put w slot n (Some r) c q s h =
        uses_next U _ _ (below (suc (suc i)) r.first.0 r.count c (closed.values i here q))
        (λ c2. uses_next U _ _ (uses_put x.plan At (suc i) (omega arith) (closed.ends i here q) 0 _ _ c2 h (bytes_clipped w x.body _ r.count slot (slot + n) (rows c i)))
        (λ c3. uses_done U _))

    uses_runs : (slot n : ℕ) (c : List ℕ) → code_of x.plan i ≡ 23 → Uses U (copy_runs x walk i slot n c)
    unfolding copy_runs
    uses_runs slot n c q =
        uses_cond U (eqb n 0) _ _ (λ e. uses_done U c)
        (λ e. uses_need U _ 12 c _
        (λ f. uses_need U (ltb (rows c i + n) (half (bytes_of x.plan (suc i)))) 7 c _
        (λ g. uses_need U _ 12 c _
        (λ h. let z = ends_code (rows c i + n) (code_of x.plan (suc i)) g in
        uses_runs_put (bytes_of x.plan (suc i)) slot n (runs_at x walk (bytes_of x.plan (suc i)) i slot n) c q (ltb-true (suc (suc i)) 32 (and_first _ (is_width (bytes_of x.plan (suc i))) f)) (z.0, omega (arith, z.1))))))

    uses_data : (slot n : ℕ) (c : List ℕ) → Uses U (copy_data x walk (code_of x.plan i) i slot n c)
    unfolding copy_data
    uses_data slot n c =
        uses_cond U (is_fixed z) _ _
        (λ e. let b = between_both 1 10 z e in
        uses_cond U (eqb (dictionary_of x.plan i) 0) _ _ (λ f. uses_numbers i small at (b.0, omega (arith, b.1)) _ slot n c)
        (λ f. uses_keys i small at (b.0, omega (arith, b.1)) _ slot n c))
        (λ e1. uses_cond U (is_string z) _ _
        (λ e. let b = between_both 11 14 z e in uses_string i small at (omega (arith, b.0), omega (arith, b.1)) _ slot n c (chars e))
        (λ e2. uses_cond U (is_view z) _ _
        (λ e. let b = between_both 15 16 z e in uses_views i small at (omega (arith, b.0), omega (arith, b.1)) slot n c)
        (λ e3. uses_cond U (is_list_view z) _ _
        (λ e. uses_list_view _ slot n c e)
        (λ e4. uses_cond U (is_list z) _ _
        (λ e. uses_list _ slot n c e)
        (λ e5. uses_cond U (eqb z 21) _ _
        (λ e. uses_sparse (union 21 e refl) slot n c)
        (λ e6. uses_cond U (eqb z 22) _ _
        (λ e. uses_dense (union 22 e refl) slot n c (eqb-true z 22 e))
        (λ e7. uses_cond U (eqb z 23) _ _
        (λ e. uses_runs slot n c (eqb-true z 23 e))
        (λ e8. uses_fail U 12 c))))))))
      where
        z : ℕ
        z = code_of x.plan i

        at : At i
        at = closed.own i here

        union : (v : ℕ) → eqb z v ≡ true → is_union v ≡ true → is_union z ≡ true
        union v e h = rw (eqb-true z v e) h

  uses_node : (walk : Walk) (below : (k a n : ℕ) (c : List ℕ) → In k → Uses U (walk k a n c)) (i a n : ℕ) (c : List ℕ) → In i → Uses U (copy_node x walk i a n c)
  unfolding copy_node copy_slots
  uses_node walk below i a n c here =
      uses_need U (ltb i 32) 12 c _
      (λ e. let small = ltb-true i 32 e in
      uses_found U far _ 12 c _
      (λ f. uses_next U _ _
      (uses_cond U (masked (code_of x.plan i)) _ _ (λ g. uses_copy_mask i small (closed.own i here) _ n c (ltb-true (code_of x.plan i) 21 g)) (λ g. uses_done U c))
      (λ c2. uses_next U _ _ (uses_data walk below i small here _ n c2) (λ c3. uses_done U _))))

  uses_walk : (depth i a n : ℕ) (c : List ℕ) → In i → Uses U (copy_walk x depth i a n c)
  unfolding copy_walk
  uses_walk zero i a n c here = uses_fail U 12 c
  uses_walk (suc depth) i a n c here = uses_node (copy_walk x depth) (λ k b m d h. uses_walk depth k b m d h) i a n c here

  -- A COPY writes only into buffers that its nodes have
  pub used_copies : (depth i a n : ℕ) (c : List ℕ) → In i → AllUsed (UsedAt x.plan At) (copy_walk x depth i a n c).log
  used_copies depth i a n c here = (uses_walk depth i a n c here).log_used
