-- No walk reads the parts: they only say where its log goes. Assumes nothing.
use mathlib.Core.Path.{◌≡◌, refl, ap, sym, fun_ext, ◌∙◌}
use mathlib.Core.Bool.{cond, ◌&&◌}
use mathlib.Core.List.{List}
use Prim.Native.Nat.{ℕ, zero, suc, ◌+◌, ◌*◌}
use lib.ListN.{take, drop}
use lib.Dec.{ltb, eqb}
use Rattle.columnar.specs.Types.{half}
use Rattle.utils.specs.Extension.{extended}
use Rattle.utils.specs.declared.Extended.{Extended}
use Rattle.utils.specs.declared.Extended.TheVariants.{Fits, Over, Falls}
use Rattle.std.specs.Prelude.{Option, Some, None}
use Rattle.run_ends.specs.declared.RunRange.{RunRange}
use Rattle.walk.specs.State.{Join, code_of, bytes_of, end_of, rows, bytes, add_rows, place, length_of, offset_of, slot_of, rows_in, far}
use Rattle.walk.specs.Log.{put, done, wrote, need, found, next}
use Rattle.walk.specs.Leaves.{copy_bits, copy_mask, copy_numbers, copy_keys, copy_views, put_string, put_extended, copy_string}
use Rattle.walk.specs.Copy.{Walk, masked, is_width, list_view_row, copy_list_view, put_stretch, copy_list, copy_sparse, dense_to, dense_row, copy_dense, put_runs, runs_at, copy_runs, copy_data, copy_slots, copy_node, copy_walk, each_field}
use Rattle.leaf_walk.specs.Join.{join}
use Rattle.walk.proofs.Names.{put_list, copy_fields}
use Rattle.walk.proofs.Offsets.{string_is, list_is}

module _ (plan parts parts2 lengths places body : List ℕ) (first source : ℕ) where
  abbrev one : Join
  one = join plan parts lengths places body first source

  abbrev other : Join
  other = join plan parts2 lengths places body first source

  -- ---- leaves

  mask_same : (i slot n : ℕ) (c : List ℕ) → copy_mask one i slot n c ≡ copy_mask other i slot n c
  unfolding copy_mask copy_bits
  mask_same i slot n c = refl

  extended_same : (i w from n : ℕ) (e : Extended) (c : List ℕ) → put_extended one i w from n e c ≡ put_extended other i w from n e c
  unfolding put_string
  extended_same i w from n (Fits last start) c = refl
  extended_same i w from n (Over row needed) c = refl
  extended_same i w from n Falls c = refl

  string_same : (i w slot n : ℕ) (c : List ℕ) → copy_string one i w slot n c ≡ copy_string other i w slot n c
  unfolding rows_in
  string_same i w slot n c =
      string_is one i w slot n c
      ∙ ap (λ z. cond (eqb n 0) (done c) (need (rows_in one (place one i 3) w slot (suc n)) 12 c z))
      (extended_same i w (place one i 3 + w * slot) n (extended w body (place one i 3 + w * slot) n (bytes c i)) c)
      ∙ sym (string_is other i w slot n c)

  -- ---- nodes with children

  module _ (child : Walk) where
    list_same : (w i slot n : ℕ) (c : List ℕ) → copy_list_view one child w i slot n c ≡ copy_list_view other child w i slot n c
    unfolding copy_list_view list_view_row rows_in
    list_same w i slot n c = refl

    stretch_same : (w i from n : ℕ) (e : Extended) (c : List ℕ) → put_list one child w i from n e c ≡ put_list other child w i from n e c
    unfolding put_stretch
    stretch_same w i from n (Fits last start) c = refl
    stretch_same w i from n (Over row needed) c = refl
    stretch_same w i from n Falls c = refl

    lists_same : (w i slot n : ℕ) (c : List ℕ) → copy_list one child w i slot n c ≡ copy_list other child w i slot n c
    unfolding rows_in
    lists_same w i slot n c =
        list_is one child w i slot n c
        ∙ ap (λ z. cond (eqb n 0) (done c) (need (ltb (suc i) 32) 12 c (need (rows_in one (place one i 3) w slot (suc n)) 12 c z)))
        (stretch_same w i (place one i 3 + w * slot) n (extended w body (place one i 3 + w * slot) n (rows c (suc i))) c)
        ∙ sym (list_is other child w i slot n c)

    fields_same : (slot n end f k : ℕ) (c : List ℕ) → copy_fields one child slot n end f k c ≡ copy_fields other child slot n end f k c
    unfolding each_field
    fields_same slot n end zero k c = refl
    fields_same slot n end (suc f) k c = ap (λ z. cond (ltb k end) (next (child k slot n c) z) (done c)) (fun_ext (λ c2. fields_same slot n end f (end_of plan k) c2))

    sparse_same : (i slot n : ℕ) (c : List ℕ) → copy_sparse one child i slot n c ≡ copy_sparse other child i slot n c
    unfolding copy_sparse rows_in
    sparse_same i slot n c =
        ap (λ z. need (rows_in one (place one i 3) 1 slot n) 12 c (next (wrote (put i 1 (rows c i) (take n (drop (place one i 3 + slot) body))) c) z))
        (fun_ext (λ c2. fields_same slot n (end_of plan i) 32 (suc i) c2))

    dense_same : (i slot n : ℕ) (c : List ℕ) → copy_dense one child i slot n c ≡ copy_dense other child i slot n c
    unfolding copy_dense dense_row dense_to rows_in
    dense_same i slot n c = refl

    put_runs_same : (w i slot n : ℕ) (r : Option RunRange) (c : List ℕ) → put_runs one child w i slot n r c ≡ put_runs other child w i slot n r c
    put_runs_same w i slot n None c = refl
    put_runs_same w i slot n (Some r) c = refl

    runs_same : (i slot n : ℕ) (c : List ℕ) → copy_runs one child i slot n c ≡ copy_runs other child i slot n c
    unfolding copy_runs rows_in
    runs_same i slot n c =
        ap (λ z.
        cond (eqb n 0) (done c)
        (need (ltb (suc (suc i)) 32 && is_width (bytes_of plan (suc i))) 12 c
        (need (ltb (rows c i + n) (half (bytes_of plan (suc i)))) 7 c
        (need (rows_in one (place one (suc i) 3) (bytes_of plan (suc i)) (offset_of one (suc i)) (length_of one (suc i))) 12 c z))))
        (put_runs_same (bytes_of plan (suc i)) i slot n (runs_at one child (bytes_of plan (suc i)) i slot n) c)

    data_same : (code i slot n : ℕ) (c : List ℕ) → copy_data one child code i slot n c ≡ copy_data other child code i slot n c
    unfolding copy_data copy_numbers copy_keys copy_views rows_in
    data_same code i slot n c =
        rw (string_same i (bytes_of plan i) slot n c, list_same (bytes_of plan i) i slot n c, lists_same (bytes_of plan i) i slot n c, sparse_same i slot n c, dense_same i slot n c, runs_same i slot n c)

    slots_same : (i slot n : ℕ) (c : List ℕ) → copy_slots one child i slot n c ≡ copy_slots other child i slot n c
    unfolding copy_slots
    slots_same i slot n c =
        ap (λ z. next (cond (masked (code_of plan i)) z (done c)) (λ c2. next (copy_data one child (code_of plan i) i slot n c2) (λ c3. done (add_rows i n c3)))) (mask_same i slot n c)
        ∙ ap (λ z. next (cond (masked (code_of plan i)) (copy_mask other i slot n c) (done c)) z)
        (fun_ext (λ c2. ap (λ z. next z (λ c3. done (add_rows i n c3))) (data_same (code_of plan i) i slot n c2)))

    node_same : (i a n : ℕ) (c : List ℕ) → copy_node one child i a n c ≡ copy_node other child i a n c
    unfolding copy_node slot_of
    node_same i a n c = ap (λ z. need (ltb i 32) 12 c (found far (slot_of one i a n) 12 c z)) (fun_ext (λ slot. slots_same i slot n c))

  pub walk_same : (depth i a n : ℕ) (c : List ℕ) → copy_walk one depth i a n c ≡ copy_walk other depth i a n c
  unfolding copy_walk
  walk_same zero i a n c = refl
  walk_same (suc depth) i a n c =
      node_same (copy_walk one depth) i a n c
      ∙ ap (λ z. copy_node other z i a n c) (fun_ext (λ i. fun_ext (λ a. fun_ext (λ n. fun_ext (λ c. walk_same depth i a n c)))))
