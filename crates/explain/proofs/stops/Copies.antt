-- What stops a copy has the ground of its walk, and is a row of the table. Assumes nothing.
use mathlib.Core.Path.{◌≡◌, refl, sym, subst}
use mathlib.Core.Bool.{Bool, true, false, cond, ◌&&◌}
use mathlib.Core.List.{List}
use Prim.Native.Nat.{ℕ, zero, suc, ◌+◌, ◌*◌, ◌-◌, ◌≤◌, ◌<◌}
use native.Mathlib.Omega.{arith}
use lib.Dec.{leb, ltb, eqb}
use borrow.Author.Tests.{leb-true, ltb-false, eqb-true}
use Rattle.array_data.proofs.lent_tables.Laws.{and_left, and_right}
use Rattle.columnar.specs.Types.{half}
use Rattle.number.specs.Number.{entry}
use Rattle.schema.specs.formats.Code.{between, is_fixed, is_string, is_view, is_list_view, is_list}
use Rattle.utils.specs.Extension.{extended}
use Rattle.utils.specs.declared.Extended.{Extended}
use Rattle.utils.specs.declared.Extended.TheVariants.{Fits, Over, Falls}
use Rattle.std.specs.Prelude.{Option, Some, None}
use Rattle.run_ends.specs.declared.RunRange.{RunRange}
use Rattle.walk.specs.State.{Join, code_of, dictionary_of, end_of, keeps_of, bytes_of, rows, bytes, place, length_of, offset_of, far, slot_of, rows_in}
use Rattle.walk.specs.Log.{Entry, Out, fail, done, wrote, need, next}
use Rattle.walk.specs.Leaves.{copy_bits, copy_mask, copy_numbers, copy_keys, copy_views, put_string, put_extended, copy_string}
use Rattle.walk.specs.Copy.{Walk, child_with, is_width, masked, list_view_row, copy_list_view, put_stretch, copy_list, copy_sparse, id_at, dense_to, dense_row, copy_dense, put_runs, runs_at, copy_runs, copy_data, copy_slots, copy_node, copy_walk, each_field}
use Rattle.leaf_walk.proofs.Widths.{string_width, list_width, lists_width}
use Rattle.nested_rows.proofs.node_data.Laws.{data_string, data_list_view, data_list, data_sparse, data_dense, data_runs}
use Rattle.refinement.proofs.walk_is_model.Codes.{between_apart}
use Rattle.explain.specs.declared.stops.Why.{Why}
use Rattle.explain.specs.stops.Why.{only, clash}
use Rattle.explain.specs.stops.Copy.{WhyWalk, most, why_list_row, why_list_view, why_stretch, why_list, why_bytes, why_string, why_fields, why_sparse, why_dense_to, why_dense_at, why_dense_row, why_dense, why_run, why_runs, why_data, why_slots, why_node, why_copy}
use Rattle.explain.specs.stops.Table.{Blank, accepted, not_lent, offset, Stated, blank, above}
use Rattle.explain.proofs.stops.Says.{Says, says_done, says_fail, says_only, says_cond, says_need, says_needed, says_found, says_past, says_wrote, passes_done, passes_wrote, passes_next, says_then, says_each}
use Rattle.explain.proofs.stops.Above.{Wide, four_wide, wide_offset, wide_end, over_offset, over_end_lem, AboveMost, extended_above}
use Rattle.walk.proofs.Names.{put_list, copy_fields}
use Rattle.walk.proofs.Offsets.{string_is, list_is}

-- ---- walks that have no ground but 12

pub data Calm : ℕ → Type 0 where
  goes_on : Calm 0
  foreign : Calm 12

pub record Quiet (o : Out) : Type 0 where
  pub calm : Calm o.ans

pub quiet_blank : (o : Out) → Quiet o → Says (only o.ans) o
quiet_blank o q = says_only o (go o.ans q.calm)
  where
    go : (g : ℕ) → Calm g → Blank g
    go _ goes_on = accepted
    go _ foreign = not_lent

pub quiet_says : (o : Out) → Quiet o → (o.ans ≡ 0 → ⊥) → Says (only 12) o
quiet_says o q h = record { refusal = go o.ans q.calm h; table = blank 12 not_lent }
  where
    go : (g : ℕ) → Calm g → (g ≡ 0 → ⊥) → 12 ≡ g
    go _ goes_on h = absurd (h refl)
    go _ foreign h = refl

pub quiet_done : (c : List ℕ) → Quiet (done c)
unfolding done
quiet_done c = record { calm = goes_on }

pub quiet_fail : (c : List ℕ) → Quiet (fail 12 c)
unfolding fail
quiet_fail c = record { calm = foreign }

pub quiet_wrote : (e : Entry) (c : List ℕ) → Quiet (wrote e c)
unfolding wrote
quiet_wrote e c = record { calm = goes_on }

pub quiet_cond : (b : Bool) {o q : Out} → Quiet o → Quiet q → Quiet (cond b o q)
quiet_cond true f g = f
quiet_cond false f g = g

pub quiet_need : (b : Bool) (c : List ℕ) {o : Out} → Quiet o → Quiet (need b 12 c o)
unfolding need
quiet_need b c h = quiet_cond b h (quiet_fail c)

pub quiet_next : (o : Out) (k : List ℕ → Out) → Quiet o → ((c : List ℕ) → Quiet (k c)) → Quiet (next o k)
unfolding next
quiet_next o k h f = quiet_cond (eqb o.ans 0) (record { calm = (f o.counters).calm }) h

module _ (x : Join) (i slot n : ℕ) (c : List ℕ) where
  quiet_mask : Quiet (copy_mask x i slot n c)
  unfolding copy_mask copy_bits
  quiet_mask =
      quiet_cond (eqb (keeps_of x.plan i) 0) (quiet_done c)
      (quiet_cond (eqb (place x i 0) 0) (quiet_wrote _ c)
      (quiet_need _ c (quiet_next _ _ (quiet_wrote _ c) (λ c2. quiet_done _))))

  pub quiet_valid : Quiet (cond (masked (code_of x.plan i)) (copy_mask x i slot n c) (done c))
  quiet_valid = quiet_cond (masked (code_of x.plan i)) quiet_mask (quiet_done c)

  quiet_numbers : (w : ℕ) → Quiet (copy_numbers x i w slot n c)
  unfolding copy_numbers
  quiet_numbers w = quiet_need _ c (quiet_wrote _ c)

  quiet_keys : (w : ℕ) → Quiet (copy_keys x i w slot n c)
  unfolding copy_keys
  quiet_keys w = quiet_need _ c (quiet_wrote _ c)

  quiet_views : Quiet (copy_views x i slot n c)
  unfolding copy_views
  quiet_views = quiet_need _ c (quiet_wrote _ c)

quiet_bytes : (x : Join) (i w from n last first : ℕ) (c : List ℕ) → Quiet (put_string x i w from n last first c)
unfolding put_string
quiet_bytes x i w from n last first c =
    quiet_need _ c (quiet_next _ _ (quiet_wrote _ c) (λ c2. quiet_next _ _ (quiet_wrote _ c2) (λ c3. quiet_done _)))

-- nodes without children, byte strings aside
pub quiet_leaf : (x : Join) (child : Walk) (code i slot n : ℕ) (c : List ℕ) → is_string code ≡ false → is_list_view code ≡ false → is_list code ≡ false
    → eqb code 21 ≡ false → eqb code 22 ≡ false → eqb code 23 ≡ false → Quiet (copy_data x child code i slot n c)
unfolding copy_data
quiet_leaf x child code i slot n c a b d e f g =
    rw (a, b, d, e, f, g)
    (quiet_cond (is_fixed code) (quiet_cond (eqb (dictionary_of x.plan i) 0) (quiet_numbers x i slot n c _) (quiet_keys x i slot n c _))
    (quiet_cond (is_view code) (quiet_views x i slot n c) (quiet_fail c)))

-- ---- node by node

module _ (x : Join) (walk : Walk) (why : WhyWalk) (below : (k a n : ℕ) (c : List ℕ) → Says (why k a n c) (walk k a n c)) where
  list_row_says : (w i slot r : ℕ) (c : List ℕ) → Wide w → Says (why_list_row x walk why w i slot r c) (list_view_row x walk w i slot r c)
  unfolding why_list_row list_view_row
  list_row_says w i slot r c z =
      says_need _ 6 c _ refl (λ e. over_offset w i r _ z (ltb-false (rows c (suc i) + entry w x.body (place x i 5) (slot + r)) (half w) e))
      (λ e. says_wrote _ c _ (says_wrote _ c _ (below (suc i) _ _ c)))

  list_view_says : (w i slot n : ℕ) (c : List ℕ) → Wide w → Says (why_list_view x walk why w i slot n c) (copy_list_view x walk w i slot n c)
  unfolding why_list_view copy_list_view
  list_view_says w i slot n c z = says_needed _ c (λ e. says_needed _ c (λ f. says_each _ _ (λ r c2. list_row_says w i slot r c2 z) n 0 c))

  stretch_says : (w i from n : ℕ) (e : Extended) (c : List ℕ) → AboveMost w e → Says (why_stretch x walk why w i e c) (put_list x walk w i from n e c)
  unfolding put_stretch fail
  stretch_says w i from n (Fits last first) c h = says_wrote _ c _ (below (suc i) first (last - rows c (suc i)) c)
  stretch_says w i from n (Over row needed) c h = record { refusal = refl; table = above 6 i row needed (most w) offset tt h }
  stretch_says w i from n Falls c h = says_fail c

  list_says : (w i slot n : ℕ) (c : List ℕ) → Wide w → Says (why_list x walk why w i slot n c) (copy_list x walk w i slot n c)
  unfolding why_list
  list_says w i slot n c z =
      rw (list_is x walk w i slot n c)
      (says_cond (eqb n 0) (λ e. says_done c)
      (λ e. says_needed _ c (λ f. says_needed _ c
      (λ g. stretch_says w i (place x i 3 + w * slot) n (extended w x.body (place x i 3 + w * slot) n (rows c (suc i))) c (extended_above w x.body (place x i 3 + w * slot) n (rows c (suc i)) z)))))

  bytes_says : (w i from n : ℕ) (e : Extended) (c : List ℕ) → AboveMost w e → Says (why_bytes x walk why w i from n e c) (put_extended x i w from n e c)
  unfolding fail
  bytes_says w i from n (Fits last first) c h = quiet_blank _ (quiet_bytes x i w from n last first c)
  bytes_says w i from n (Over row needed) c h = record { refusal = refl; table = above 6 i row needed (most w) offset tt h }
  bytes_says w i from n Falls c h = says_fail c

  string_says : (w i slot n : ℕ) (c : List ℕ) → Wide w → Says (why_string x walk why w i slot n c) (copy_string x i w slot n c)
  unfolding why_string
  string_says w i slot n c z =
      rw (string_is x i w slot n c)
      (says_cond (eqb n 0) (λ e. says_done c)
      (λ e. says_needed _ c
      (λ g. bytes_says w i (place x i 3 + w * slot) n (extended w x.body (place x i 3 + w * slot) n (bytes c i)) c (extended_above w x.body (place x i 3 + w * slot) n (bytes c i) z))))

  fields_say : (slot n end f k : ℕ) (c : List ℕ) → Says (why_fields x walk why slot n end f k c) (copy_fields x walk slot n end f k c)
  unfolding why_fields each_field
  fields_say slot n end zero k c = says_done c
  fields_say slot n end (suc f) k c =
      says_cond (ltb k end) (λ e. says_past (walk k slot n c) _ _ _ (λ h. below k slot n c) (λ c2. fields_say slot n end f (end_of x.plan k) c2)) (λ e. says_done c)

  sparse_says : (i slot n : ℕ) (c : List ℕ) → Says (why_sparse x walk why i slot n c) (copy_sparse x walk i slot n c)
  unfolding why_sparse copy_sparse
  sparse_says i slot n c = says_needed _ c (λ e. says_wrote _ c _ (fields_say slot n (end_of x.plan i) 32 (suc i) c))

  dense_to_says : (i slot r k : ℕ) (c : List ℕ) → Says (why_dense_to x walk why i slot r k c) (dense_to x walk i slot r k c)
  unfolding why_dense_to dense_to
  dense_to_says i slot r k c =
      says_need _ 6 c _ refl (λ e. over_offset 4 i r _ four_wide (ltb-false (rows c k) (half 4) e)) (λ e. says_wrote _ c _ (says_wrote _ c _ (below k _ 1 c)))

  dense_row_says : (i slot r : ℕ) (c : List ℕ) → Says (why_dense_row x walk why i slot r c) (dense_row x walk i slot r c)
  unfolding why_dense_row why_dense_at dense_row
  dense_row_says i slot r c = says_found 32 _ 12 c _ (only 12) refl (λ e. blank 12 not_lent) (λ e. dense_to_says i slot r _ c)

  dense_says : (i slot n : ℕ) (c : List ℕ) → Says (why_dense x walk why i slot n c) (copy_dense x walk i slot n c)
  unfolding why_dense copy_dense
  dense_says i slot n c = says_needed _ c (λ e. says_each _ _ (λ r c2. dense_row_says i slot r c2) n 0 c)

  run_says : (w i slot n : ℕ) (r : Option RunRange) (c : List ℕ) → Says (why_run x walk why i r c) (put_runs x walk w i slot n r c)
  run_says w i slot n None c = says_fail c
  run_says w i slot n (Some r) c = says_then (walk (suc (suc i)) r.first.0 r.count c) _ (λ c2. passes_next _ _ (passes_wrote _ c2) (λ c3. passes_done _)) (below (suc (suc i)) r.first.0 r.count c)

  runs_say : (i slot n : ℕ) (c : List ℕ) → Says (why_runs x walk why i slot n c) (copy_runs x walk i slot n c)
  unfolding why_runs copy_runs
  runs_say i slot n c =
      says_cond (eqb n 0) (λ e. says_done c)
      (λ e. says_needed _ c
      (λ f. says_need _ 7 c _ refl (λ g. over_end_lem (bytes_of x.plan (suc i)) i _ (wide_end (bytes_of x.plan (suc i)) (and_right (ltb (suc (suc i)) 32) _ f)) (ltb-false (rows c i + n) (half (bytes_of x.plan (suc i))) g))
      (λ g. says_needed _ c (λ h. run_says (bytes_of x.plan (suc i)) i slot n (runs_at x walk (bytes_of x.plan (suc i)) i slot n) c))))

  -- the data of a node by its code
  to : {w : Why} {o q : Out} → o ≡ q → Says w o → Says w q
  to {w} e s = subst (Says w) e s

  code_range : (low high code : ℕ) → between low high code ≡ true → (low ≤ code) × (code ≤ high)
  code_range low high code h = (leb-true low code (and_left (leb low code) (leb code high) h), leb-true code high (and_right (leb low code) (leb code high) h))

  data_says : (i slot n : ℕ) (c : List ℕ) → Says (why_data x walk why (code_of x.plan i) i slot n c) (copy_data x walk (code_of x.plan i) i slot n c)
  unfolding why_data
  data_says i slot n c = go (is_string code) (is_list_view code) (is_list code) (eqb code 21) (eqb code 22) (eqb code 23) refl refl refl refl refl refl
    where
      code : ℕ
      code = code_of x.plan i

      go : (a b d e f g : Bool) → is_string code ≡ a → is_list_view code ≡ b → is_list code ≡ d → eqb code 21 ≡ e → eqb code 22 ≡ f → eqb code 23 ≡ g
          → Says (cond a (why_string x walk why (bytes_of x.plan i) i slot n c) (cond b (why_list_view x walk why (bytes_of x.plan i) i slot n c) (cond d (why_list x walk why (bytes_of x.plan i) i slot n c)
          (cond e (why_sparse x walk why i slot n c) (cond f (why_dense x walk why i slot n c) (cond g (why_runs x walk why i slot n c) (only (copy_data x walk code i slot n c).ans)))))))
          (copy_data x walk code i slot n c)
      go true b d e f g p q r s t u = to (data_string x walk code i slot n c (between_apart 11 14 1 10 code (omega arith) p) p) (string_says (bytes_of x.plan i) i slot n c (wide_offset _ (string_width code p)))
      go false true d e f g p q r s t u = let k = code_range 17 18 code q in to (data_list_view x walk code i slot n c k.0 k.1) (list_view_says (bytes_of x.plan i) i slot n c (wide_offset _ (list_width code q)))
      go false false true e f g p q r s t u = let k = code_range 19 20 code r in to (data_list x walk code i slot n c k.0 k.1) (list_says (bytes_of x.plan i) i slot n c (wide_offset _ (lists_width code r)))
      go false false false true f g p q r s t u = to (data_sparse x walk code i slot n c (eqb-true code 21 s)) (sparse_says i slot n c)
      go false false false false true g p q r s t u = to (data_dense x walk code i slot n c (eqb-true code 22 t)) (dense_says i slot n c)
      go false false false false false true p q r s t u = to (data_runs x walk code i slot n c (eqb-true code 23 u)) (runs_say i slot n c)
      go false false false false false false p q r s t u = quiet_blank _ (quiet_leaf x walk code i slot n c p q r s t u)

  slots_say : (i slot n : ℕ) (c : List ℕ) → Says (why_slots x walk why i slot n c) (copy_slots x walk i slot n c)
  unfolding why_slots copy_slots
  slots_say i slot n c =
      says_past _ (only 12) _ _ (quiet_says _ (quiet_valid x i slot n c)) (λ c2. says_then _ _ (λ c3. passes_done _) (data_says i slot n c2))

  pub node_says : (i a n : ℕ) (c : List ℕ) → Says (why_node x walk why i a n c) (copy_node x walk i a n c)
  unfolding why_node copy_node
  node_says i a n c = says_needed _ c (λ e. says_found far _ 12 c _ (only 12) refl (λ f. blank 12 not_lent) (λ f. slots_say i (slot_of x i a n) n c))

-- WHAT STOPS A COPY
pub copy_says : (x : Join) (depth i a n : ℕ) (c : List ℕ) → Says (why_copy x depth i a n c) (copy_walk x depth i a n c)
unfolding why_copy copy_walk
copy_says x zero i a n c = says_fail c
copy_says x (suc depth) i a n c = node_says x (copy_walk x depth) (why_copy x depth) (λ k b m d. copy_says x depth k b m d) i a n c
