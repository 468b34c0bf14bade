-- Counters at nodes that a walk does not write at stay as they were. Assumes nothing.
use mathlib.Core.Path.{◌≡◌, refl, sym, subst, ◌∙◌}
use mathlib.Core.Bool.{Bool, true, false, cond}
use mathlib.Core.List.{List}
use Prim.Native.Nat.{ℕ, zero, suc, ◌+◌, ◌*◌, ◌<◌}
use native.Mathlib.Omega.{arith}
use lib.Dec.{ltb, eqb}
use borrow.Author.Tests.{ltb-true, eqb-true}
use Rattle.schema.specs.formats.Code.{is_fixed, is_string, is_view, is_list_view, is_list, is_union}
use Rattle.utils.specs.Extension.{extended}
use Rattle.utils.specs.declared.Extended.{Extended}
use Rattle.utils.specs.declared.Extended.TheVariants.{Fits, Over, Falls}
use Rattle.std.specs.Prelude.{Option, Some, None}
use Rattle.run_ends.specs.declared.RunRange.{RunRange}
use Rattle.walk.specs.State.{Join, code_of, dictionary_of, end_of, keeps_of, bytes_of, rows, nulls, bytes, gap, place, far, add_rows, add_nulls, set_bytes}
use Rattle.walk.specs.Log.{Entry, Out, fail, done, wrote, need, found, next, each}
use Rattle.walk.specs.Leaves.{copy_bits, copy_mask, copy_numbers, copy_keys, copy_views, put_string, put_extended, copy_string, null_mask, count_nulls, null_numbers, null_string}
use Rattle.walk.specs.Copy.{Walk, masked, list_view_row, copy_list_view, put_stretch, copy_list, copy_sparse, id_at, dense_to, dense_row, copy_dense, put_runs, runs_at, copy_runs, copy_data, copy_slots, copy_node, copy_walk, each_field}
use Rattle.walk.specs.Nulls.{NullWalk, null_list_view, null_list, null_sparse, null_dense, add_run, grow_run, null_runs, null_data, null_node, null_walk}
use Rattle.refinement.proofs.walk_is_model.Counters.{rows_other, nulls_of_rows, bytes_of_rows, nulls_other, rows_of_nulls, bytes_of_nulls, bytes_other, rows_of_bytes, nulls_of_bytes}
use Rattle.refinement.specs.log_in_room.Reach.{Child, Closed}
use Rattle.refinement.proofs.log_in_room.Found.{between_wide, child_first, child_later, child_with_lem, child_nullable}
use Rattle.walk.proofs.Names.{put_list, copy_fields, null_fields}
use Rattle.walk.proofs.Offsets.{string_is, list_is}

module _ (j : ℕ) where
  -- node j's rows, nulls and bytes are as they were
  pub record Same (c c' : List ℕ) : Type 0 where
    pub rows_same : rows c' j ≡ rows c j
    pub nulls_same : nulls c' j ≡ nulls c j
    pub bytes_same : bytes c' j ≡ bytes c j

  abbrev Still : List ℕ → Out → Type 0
  Still c o = Same c o.counters

  same_refl : (c : List ℕ) → Same c c
  same_refl c = record { rows_same = refl; nulls_same = refl; bytes_same = refl }

  same_then : {a b c : List ℕ} → Same a b → Same b c → Same a c
  same_then p q = record { rows_same = q.rows_same ∙ p.rows_same; nulls_same = q.nulls_same ∙ p.nulls_same; bytes_same = q.bytes_same ∙ p.bytes_same }

  still_done : (c : List ℕ) → Still c (done c)
  unfolding done
  still_done c = same_refl c

  still_to : (c c' : List ℕ) → Same c c' → Still c (done c')
  unfolding done
  still_to c c' h = h

  still_fail : (g : ℕ) (c : List ℕ) → Still c (fail g c)
  unfolding fail
  still_fail g c = same_refl c

  still_wrote : (e : Entry) (c : List ℕ) → Still c (wrote e c)
  unfolding wrote
  still_wrote e c = same_refl c

  still_cond : (c : List ℕ) (b : Bool) (o r : Out) → (b ≡ true → Still c o) → (b ≡ false → Still c r) → Still c (cond b o r)
  still_cond c true o r f g = f refl
  still_cond c false o r f g = g refl

  still_need : (b : Bool) (g : ℕ) (c : List ℕ) (o : Out) → (b ≡ true → Still c o) → Still c (need b g c o)
  unfolding need
  still_need b g c o h = still_cond c b o (fail g c) h (λ e. still_fail g c)

  still_found : (m v g : ℕ) (c : List ℕ) (k : ℕ → Out) → (v < m → Still c (k v)) → Still c (found m v g c k)
  unfolding found
  still_found m v g c k h = still_cond c (ltb v m) (k v) (fail g c) (λ e. h (ltb-true v m e)) (λ e. still_fail g c)

  still_next : (c : List ℕ) (o : Out) (k : List ℕ → Out) → Still c o → ((c2 : List ℕ) → Still c2 (k c2)) → Still c (next o k)
  unfolding next
  still_next c o k h g = still_cond c (eqb o.ans 0) _ o (λ e. same_then h (g o.counters)) (λ e. h)

  still_each : (f : ℕ → List ℕ → Out) → ((r : ℕ) (c : List ℕ) → Still c (f r c)) → (n r : ℕ) (c : List ℕ) → Still c (each f n r c)
  unfolding each
  still_each f h zero r c = still_done c
  still_each f h (suc n) r c = still_next c (f r c) _ (h r c) (λ c2. still_each f h n (suc r) c2)

  module _ (x : Join) (In At : ℕ → Type 0) (closed : Closed x.plan In At) (out : At j → ⊥) where
    apart : (i : ℕ) → At i → j ≡ i → ⊥
    apart i a e = out (subst At (sym e) a)

    more_rows_lem : (i n : ℕ) (c : List ℕ) → At i → Still c (done (add_rows i n c))
    more_rows_lem i n c a = still_to c (add_rows i n c) (record { rows_same = rows_other c i n j (apart i a); nulls_same = nulls_of_rows c i n j; bytes_same = bytes_of_rows c i n j })

    more_nulls : (i n : ℕ) (c : List ℕ) → At i → Still c (done (add_nulls i n c))
    more_nulls i n c a = still_to c (add_nulls i n c) (record { rows_same = rows_of_nulls c i n j; nulls_same = nulls_other c i n j (apart i a); bytes_same = bytes_of_nulls c i n j })

    more_bytes : (i n : ℕ) (c : List ℕ) → At i → Still c (done (set_bytes i n c))
    more_bytes i n c a = still_to c (set_bytes i n c) (record { rows_same = rows_of_bytes c i n j; nulls_same = nulls_of_bytes c i n j; bytes_same = bytes_other c i n j (apart i a) })

    -- ends behind those of a run-end node, and its gap
    more_runs : (i n v : ℕ) (c : List ℕ) → At i → At (suc i) → Still c (done (set_bytes i v (add_rows (suc i) n c)))
    more_runs i n v c a b =
        still_to c (set_bytes i v (add_rows (suc i) n c))
        (record {
          rows_same = rows_of_bytes (add_rows (suc i) n c) i v j ∙ rows_other c (suc i) n j (apart (suc i) b);
          nulls_same = nulls_of_bytes (add_rows (suc i) n c) i v j ∙ nulls_of_rows c (suc i) n j;
          bytes_same = bytes_other (add_rows (suc i) n c) i v j (apart i a) ∙ bytes_of_rows c (suc i) n j;
        })

    -- ---- a copy

    module _ (i : ℕ) (here : At i) where
      still_mask : (slot n : ℕ) (c : List ℕ) → Still c (copy_mask x i slot n c)
      unfolding copy_mask copy_bits
      still_mask slot n c =
          still_cond c (eqb (keeps_of x.plan i) 0) _ _ (λ e. still_done c)
          (λ e. still_cond c (eqb (place x i 0) 0) _ _ (λ f. still_wrote _ c)
          (λ f. still_need _ 12 c _ (λ g. still_next c _ _ (still_wrote _ c) (λ c2. more_nulls i _ c2 here))))

      still_numbers : (w slot n : ℕ) (c : List ℕ) → Still c (copy_numbers x i w slot n c)
      unfolding copy_numbers
      still_numbers w slot n c = still_need _ 12 c _ (λ e. still_wrote _ c)

      still_keys : (w slot n : ℕ) (c : List ℕ) → Still c (copy_keys x i w slot n c)
      unfolding copy_keys
      still_keys w slot n c = still_need _ 12 c _ (λ e. still_wrote _ c)

      still_views : (slot n : ℕ) (c : List ℕ) → Still c (copy_views x i slot n c)
      unfolding copy_views
      still_views slot n c = still_need _ 12 c _ (λ e. still_wrote _ c)

      still_extended : (w from n : ℕ) (e : Extended) (c : List ℕ) → Still c (put_extended x i w from n e c)
      unfolding put_string
      still_extended w from n (Fits last first) c =
          still_need _ 12 c _ (λ e. still_next c _ _ (still_wrote _ c) (λ c2. still_next c2 _ _ (still_wrote _ c2) (λ c3. more_bytes i last c3 here)))
      still_extended w from n (Over row needed) c = still_fail 6 c
      still_extended w from n Falls c = still_fail 12 c

      still_string : (w slot n : ℕ) (c : List ℕ) → Still c (copy_string x i w slot n c)
      still_string w slot n c =
          rw (string_is x i w slot n c)
          (still_cond c (eqb n 0) _ _ (λ e. still_done c)
          (λ e. still_need _ 12 c _ (λ f. still_extended w (place x i 3 + w * slot) n (extended w x.body (place x i 3 + w * slot) n (bytes c i)) c)))

    module _ (walk : Walk) (below : (k a n : ℕ) (c : List ℕ) → In k → Still c (walk k a n c)) (i : ℕ) (here : In i) where
      still_list : (w slot n : ℕ) (c : List ℕ) → is_list_view (code_of x.plan i) ≡ true → Still c (copy_list_view x walk w i slot n c)
      unfolding copy_list_view list_view_row
      still_list w slot n c h =
          still_need _ 12 c _
          (λ e. still_need _ 12 c _
          (λ f. still_each _
          (λ r c1. still_need _ 6 c1 _
          (λ g. still_next c1 _ _ (still_wrote _ c1) (λ c2. still_next c2 _ _ (still_wrote _ c2) (λ c3. below (suc i) _ _ c3 (closed.item i here (between_wide 17 18 17 20 (code_of x.plan i) (omega arith) (omega arith) h))))))
          n 0 c))

      still_stretch : (w from n : ℕ) (e : Extended) (c : List ℕ) → is_list (code_of x.plan i) ≡ true → Still c (put_list x walk w i from n e c)
      unfolding put_stretch
      still_stretch w from n (Fits last first) c h =
          still_next c _ _ (still_wrote _ c) (λ c2. below (suc i) _ _ c2 (closed.item i here (between_wide 19 20 17 20 (code_of x.plan i) (omega arith) (omega arith) h)))
      still_stretch w from n (Over row needed) c h = still_fail 6 c
      still_stretch w from n Falls c h = still_fail 12 c

      still_lists : (w slot n : ℕ) (c : List ℕ) → is_list (code_of x.plan i) ≡ true → Still c (copy_list x walk w i slot n c)
      still_lists w slot n c h =
          rw (list_is x walk w i slot n c)
          (still_cond c (eqb n 0) _ _ (λ e. still_done c)
          (λ e. still_need _ 12 c _
          (λ f. still_need _ 12 c _ (λ g. still_stretch w (place x i 3 + w * slot) n (extended w x.body (place x i 3 + w * slot) n (rows c (suc i))) c h))))

      still_fields : (slot n fuel k : ℕ) (c : List ℕ) → is_union (code_of x.plan i) ≡ true → (k < end_of x.plan i → Child x.plan i k)
          → Still c (copy_fields x walk slot n (end_of x.plan i) fuel k c)
      unfolding each_field
      still_fields slot n zero k c h d = still_done c
      still_fields slot n (suc fuel) k c h d =
          still_cond c (ltb k (end_of x.plan i)) _ _
          (λ e. let f = d (ltb-true k (end_of x.plan i) e) in
          still_next c _ _ (below k slot n c (closed.child i k here h f)) (λ c2. still_fields slot n fuel (end_of x.plan k) c2 h (child_later x.plan i k f)))
          (λ e. still_done c)

      still_sparse : (slot n : ℕ) (c : List ℕ) → is_union (code_of x.plan i) ≡ true → Still c (copy_sparse x walk i slot n c)
      unfolding copy_sparse
      still_sparse slot n c u = still_need _ 12 c _ (λ e. still_next c _ _ (still_wrote _ c) (λ c2. still_fields slot n 32 (suc i) c2 u (child_first x.plan i)))

      still_dense : (slot n : ℕ) (c : List ℕ) → is_union (code_of x.plan i) ≡ true → Still c (copy_dense x walk i slot n c)
      unfolding copy_dense dense_row dense_to
      still_dense slot n c u =
          still_need _ 12 c _
          (λ e. still_each _
          (λ r c1. still_found 32 _ 12 c1 _
          (λ l. still_need _ 6 c1 _
          (λ g. still_next c1 _ _ (still_wrote _ c1)
          (λ c2. still_next c2 _ _ (still_wrote _ c2)
          (λ c3. below _ _ 1 c3 (closed.child i _ here u (child_with_lem x.plan i (id_at x walk i (slot + r)) 32 (suc i) (child_first x.plan i) l)))))))
          n 0 c)

      still_put : (w slot n : ℕ) (r : Option RunRange) (c : List ℕ) → code_of x.plan i ≡ 23 → Still c (put_runs x walk w i slot n r c)
      still_put w slot n None c q = still_fail 12 c
      still_put w slot n (Some r) c q =
          still_next c _ _ (below (suc (suc i)) r.first.0 r.count c (closed.values i here q))
          (λ c2. still_next c2 _ _ (still_wrote _ c2) (λ c3. more_runs i r.count _ c3 (closed.own i here) (closed.ends i here q)))

      still_runs : (slot n : ℕ) (c : List ℕ) → code_of x.plan i ≡ 23 → Still c (copy_runs x walk i slot n c)
      unfolding copy_runs
      still_runs slot n c q =
          still_cond c (eqb n 0) _ _ (λ e. still_done c)
          (λ e. still_need _ 12 c _
          (λ f. still_need _ 7 c _
          (λ g. still_need _ 12 c _ (λ h. still_put (bytes_of x.plan (suc i)) slot n (runs_at x walk (bytes_of x.plan (suc i)) i slot n) c q))))

      union : (v : ℕ) → eqb (code_of x.plan i) v ≡ true → is_union v ≡ true → is_union (code_of x.plan i) ≡ true
      union v e h = rw (eqb-true (code_of x.plan i) v e) h

      still_data : (slot n : ℕ) (c : List ℕ) → Still c (copy_data x walk (code_of x.plan i) i slot n c)
      unfolding copy_data
      still_data slot n c =
          still_cond c (is_fixed (code_of x.plan i)) _ _
          (λ e. still_cond c (eqb (dictionary_of x.plan i) 0) _ _ (λ f. still_numbers i (closed.own i here) _ slot n c) (λ f. still_keys i (closed.own i here) _ slot n c))
          (λ e1. still_cond c (is_string (code_of x.plan i)) _ _ (λ e. still_string i (closed.own i here) _ slot n c)
          (λ e2. still_cond c (is_view (code_of x.plan i)) _ _ (λ e. still_views i (closed.own i here) slot n c)
          (λ e3. still_cond c (is_list_view (code_of x.plan i)) _ _ (λ e. still_list _ slot n c e)
          (λ e4. still_cond c (is_list (code_of x.plan i)) _ _ (λ e. still_lists _ slot n c e)
          (λ e5. still_cond c (eqb (code_of x.plan i) 21) _ _ (λ e. still_sparse slot n c (union 21 e refl))
          (λ e6. still_cond c (eqb (code_of x.plan i) 22) _ _ (λ e. still_dense slot n c (union 22 e refl))
          (λ e7. still_cond c (eqb (code_of x.plan i) 23) _ _ (λ e. still_runs slot n c (eqb-true (code_of x.plan i) 23 e))
          (λ e8. still_fail 12 c))))))))

      still_node : (a n : ℕ) (c : List ℕ) → Still c (copy_node x walk i a n c)
      unfolding copy_node copy_slots
      still_node a n c =
          still_need _ 12 c _
          (λ e. still_found far _ 12 c _
          (λ f. still_next c _ _ (still_cond c (masked (code_of x.plan i)) _ _ (λ g. still_mask i (closed.own i here) _ n c) (λ g. still_done c))
          (λ c2. still_next c2 _ _ (still_data _ n c2) (λ c3. more_rows_lem i n c3 (closed.own i here)))))

    -- A COPY leaves the counters of other nodes
    pub still_copies : (depth i a n : ℕ) (c : List ℕ) → In i → Still c (copy_walk x depth i a n c)
    unfolding copy_walk
    still_copies zero i a n c here = still_fail 12 c
    still_copies (suc depth) i a n c here = still_node (copy_walk x depth) (λ k b m d h. still_copies depth k b m d h) i here a n c

    -- ---- nulls

    still_null_mask : (i n : ℕ) (c : List ℕ) → At i → Still c (null_mask x i n c)
    unfolding null_mask
    still_null_mask i n c here = still_cond c (eqb (keeps_of x.plan i) 0) _ _ (λ e. still_done c) (λ e. still_next c _ _ (still_wrote _ c) (λ c2. more_nulls i n c2 here))

    still_count : (i n : ℕ) (c : List ℕ) → At i → Still c (count_nulls x i n c)
    unfolding count_nulls
    still_count i n c here = still_cond c (eqb (keeps_of x.plan i) 0) _ _ (λ e. still_done c) (λ e. more_nulls i n c here)

    still_zeros : (i b w n : ℕ) (c : List ℕ) → Still c (null_numbers x i b w n c)
    unfolding null_numbers
    still_zeros i b w n c = still_wrote _ c

    still_repeated : (i w n : ℕ) (c : List ℕ) → Still c (null_string x i w n c)
    unfolding null_string
    still_repeated i w n c = still_wrote _ c

    module _ (walk : NullWalk) (below : (k n : ℕ) (c : List ℕ) → In k → Still c (walk k n c)) (i : ℕ) (here : In i) where
      still_null_list : (w n : ℕ) (c : List ℕ) → Still c (null_list_view x walk w i n c)
      unfolding null_list_view
      still_null_list w n c = still_next c _ _ (still_zeros i 1 w n c) (λ c2. still_zeros i 2 w n c2)

      still_null_lists : (w n : ℕ) (c : List ℕ) → Still c (null_list x walk w i n c)
      unfolding null_list
      still_null_lists w n c = still_need _ 12 c _ (λ e. still_wrote _ c)

      still_null_fields : (n fuel k : ℕ) (c : List ℕ) → is_union (code_of x.plan i) ≡ true → (k < end_of x.plan i → Child x.plan i k)
          → Still c (null_fields x walk n (end_of x.plan i) fuel k c)
      unfolding each_field
      still_null_fields n zero k c h d = still_done c
      still_null_fields n (suc fuel) k c h d =
          still_cond c (ltb k (end_of x.plan i)) _ _
          (λ e. let f = d (ltb-true k (end_of x.plan i) e) in
          still_next c _ _ (below k n c (closed.child i k here h f)) (λ c2. still_null_fields n fuel (end_of x.plan k) c2 h (child_later x.plan i k f)))
          (λ e. still_done c)

      still_null_sparse : (n : ℕ) (c : List ℕ) → is_union (code_of x.plan i) ≡ true → Still c (null_sparse x walk i n c)
      unfolding null_sparse
      still_null_sparse n c u = still_found 32 _ _ c _ (λ l. still_next c _ _ (still_wrote _ c) (λ c2. still_null_fields n 32 (suc i) c2 u (child_first x.plan i)))

      still_null_dense : (n : ℕ) (c : List ℕ) → is_union (code_of x.plan i) ≡ true → Still c (null_dense x walk i n c)
      unfolding null_dense
      still_null_dense n c u =
          still_found 32 _ _ c _
          (λ l. still_need _ 6 c _
          (λ e. still_next c _ _ (still_wrote _ c)
          (λ c2. still_next c2 _ _ (still_wrote _ c2)
          (λ c3. below _ n c3 (closed.child i _ here u (child_nullable x.plan i 32 (suc i) (child_first x.plan i) l))))))

      still_null_runs : (n : ℕ) (c : List ℕ) → code_of x.plan i ≡ 23 → Still c (null_runs x walk i n c)
      unfolding null_runs grow_run add_run
      still_null_runs n c q =
          still_need _ 12 c _
          (λ e. still_cond c (eqb (gap c i) 2) _ _ (λ on. still_need _ 12 c _ (λ f. still_need _ 7 c _ (λ g. still_wrote _ c)))
          (λ off. still_next c _ _ (below (suc (suc i)) 1 c (closed.values i here q))
          (λ c2. still_need _ 7 c2 _ (λ g. still_next c2 _ _ (still_wrote _ c2) (λ c3. more_runs i 1 _ c3 (closed.own i here) (closed.ends i here q))))))

      null_union : (v : ℕ) → eqb (code_of x.plan i) v ≡ true → is_union v ≡ true → is_union (code_of x.plan i) ≡ true
      null_union v e h = rw (eqb-true (code_of x.plan i) v e) h

      still_null_data : (n : ℕ) (c : List ℕ) → Still c (null_data x walk (code_of x.plan i) i n c)
      unfolding null_data
      still_null_data n c =
          still_cond c (is_fixed (code_of x.plan i)) _ _ (λ e. still_zeros i 1 _ n c)
          (λ e1. still_cond c (is_string (code_of x.plan i)) _ _ (λ e. still_repeated i _ n c)
          (λ e2. still_cond c (is_view (code_of x.plan i)) _ _ (λ e. still_zeros i 1 16 n c)
          (λ e3. still_cond c (is_list_view (code_of x.plan i)) _ _ (λ e. still_null_list _ n c)
          (λ e4. still_cond c (is_list (code_of x.plan i)) _ _ (λ e. still_null_lists _ n c)
          (λ e5. still_cond c (eqb (code_of x.plan i) 21) _ _ (λ e. still_null_sparse n c (null_union 21 e refl))
          (λ e6. still_cond c (eqb (code_of x.plan i) 22) _ _ (λ e. still_null_dense n c (null_union 22 e refl))
          (λ e7. still_cond c (eqb (code_of x.plan i) 23) _ _ (λ e. still_null_runs n c (eqb-true (code_of x.plan i) 23 e))
          (λ e8. still_fail 12 c))))))))

      still_null_node : (n : ℕ) (c : List ℕ) → Still c (null_node x walk i n c)
      unfolding null_node
      still_null_node n c =
          still_cond c (eqb n 0) _ _ (λ e. still_done c)
          (λ e. still_need _ 12 c _
          (λ f. still_next c _ _ (still_null_data n c)
          (λ c2. still_next c2 _ _ (still_cond c2 (masked (code_of x.plan i)) _ _ (λ g. still_null_mask i n c2 (closed.own i here)) (λ g. still_count i n c2 (closed.own i here)))
          (λ c3. more_rows_lem i n c3 (closed.own i here)))))

    -- NULLS, likewise
    pub still_nulls : (depth i n : ℕ) (c : List ℕ) → In i → Still c (null_walk x depth i n c)
    unfolding null_walk
    still_nulls zero i n c here = still_fail 12 c
    still_nulls (suc depth) i n c here = still_null_node (null_walk x depth) (λ k m d h. still_nulls depth k m d h) i here n c
