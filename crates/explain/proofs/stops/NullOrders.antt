-- What stops an order of nulls has the ground of its walk, and is a row of the table. Assumes nothing.
use mathlib.Core.Path.{◌≡◌, refl, sym, subst}
use mathlib.Core.Bool.{Bool, true, false, cond, ◌&&◌}
use mathlib.Core.List.{List}
use Prim.Native.Nat.{ℕ, zero, suc, ◌+◌, ◌*◌, ◌-◌, ◌≤◌, ◌<◌, min, max}
use native.Mathlib.Omega.{arith}
use lib.Dec.{leb, ltb, eqb}
use borrow.Author.Tests.{leb-true, ltb-false, eqb-true}
use Rattle.array_data.proofs.lent_tables.Laws.{and_left, and_right}
use Rattle.columnar.specs.Types.{half}
use Rattle.schema.specs.formats.Code.{is_fixed, is_string, is_view, is_list_view, is_list}
use Rattle.walk.specs.State.{Join, code_of, end_of, keeps_of, bytes_of, rows, gap, far}
use Rattle.walk.specs.Log.{Entry, Out, fail, done, wrote, need, next}
use Rattle.walk.specs.Leaves.{null_mask, count_nulls, null_numbers, null_string}
use Rattle.walk.specs.Copy.{is_width, masked, each_field}
use Rattle.walk.specs.Nulls.{NullWalk, nullable_child, no_home, null_list_view, null_list, null_sparse, null_dense, add_run, grow_run, null_runs, null_data, null_node, null_walk}
use Rattle.nested_rows.proofs.node_data.Laws.{null_sparse_lem, null_dense_lem, null_runs_lem}
use Rattle.explain.specs.declared.stops.Why.{Why}
use Rattle.explain.specs.stops.Why.{only, nothing, named, clash}
use Rattle.explain.specs.stops.Copy.{most}
use Rattle.explain.specs.stops.Nulls.{WhyNullWalk, walked, first_position, why_null_fields, why_null_sparse, why_null_home, why_null_dense, why_null_end, why_null_runs, why_null_data, why_null_node, why_nulls}
use Rattle.explain.specs.stops.Table.{Blank, accepted, not_lent, Homeless, no_fields, no_nullable, Stated, blank, homeless}
use Rattle.explain.proofs.stops.Says.{Says, says_done, says_fail, says_cond, says_need, says_needed, says_found, says_past, says_wrote, Passes, passes_done, passes_wrote, passes_cond, passes_next, says_passes, says_then}
use Rattle.explain.proofs.stops.Above.{Wide, four_wide, wide_end, over_offset, over_end_lem}
use Rattle.explain.proofs.stops.Copies.{Quiet, quiet_blank, quiet_done, quiet_fail, quiet_wrote, quiet_cond, quiet_need, quiet_next}
use Rattle.walk.proofs.Names.{null_fields}

none_home : (plan : List ℕ) (i : ℕ) → Stated (named (no_home plan i) i)
none_home plan i = homeless (no_home plan i) i (go (ltb (suc i) (end_of plan i)))
  where
    go : (b : Bool) → Homeless (cond b 5 4)
    go true = no_nullable
    go false = no_fields

-- nodes without children, and lists: no ground but 12
quiet_null : (x : Join) (walk : NullWalk) (code i n : ℕ) (c : List ℕ) → eqb code 21 ≡ false → eqb code 22 ≡ false → eqb code 23 ≡ false → Quiet (null_data x walk code i n c)
unfolding null_data null_numbers null_string null_list_view null_list
quiet_null x walk code i n c e f g =
    rw (e, f, g)
    (quiet_cond (is_fixed code) (quiet_wrote _ c)
    (quiet_cond (is_string code) (quiet_wrote _ c)
    (quiet_cond (is_view code) (quiet_wrote _ c)
    (quiet_cond (is_list_view code) (quiet_next _ _ (quiet_wrote _ c) (λ c2. quiet_wrote _ c2))
    (quiet_cond (is_list code) (quiet_need _ c (quiet_wrote _ c))
    (quiet_fail c))))))

-- validity and rows stop nothing
counted : (x : Join) (i n : ℕ) (c : List ℕ) → Passes (cond (masked (code_of x.plan i)) (null_mask x i n c) (count_nulls x i n c))
unfolding null_mask count_nulls
counted x i n c =
    passes_cond (masked (code_of x.plan i))
    (passes_cond (eqb (keeps_of x.plan i) 0) (passes_done c) (passes_next _ _ (passes_wrote _ c) (λ c2. passes_done _)))
    (passes_cond (eqb (keeps_of x.plan i) 0) (passes_done c) (passes_done _))

module _ (x : Join) (walk : NullWalk) (why : WhyNullWalk) (below : (k n : ℕ) (c : List ℕ) → Says (why k n c) (walk k (walked n) c)) where
  null_fields_say : (n end f k : ℕ) (c : List ℕ) → Says (why_null_fields x walk why n end f k c) (null_fields x walk (walked n) end f k c)
  unfolding why_null_fields each_field
  null_fields_say n end zero k c = says_done c
  null_fields_say n end (suc f) k c =
      says_cond (ltb k end) (λ e. says_past (walk k (walked n) c) _ _ _ (λ h. below k n c) (λ c2. null_fields_say n end f (end_of x.plan k) c2)) (λ e. says_done c)

  null_sparse_says : (i n : ℕ) (c : List ℕ) → Says (why_null_sparse x walk why i n c) (null_sparse x walk i (walked n) c)
  unfolding why_null_sparse null_sparse
  null_sparse_says i n c =
      says_found 32 _ (no_home x.plan i) c _ _ refl (λ e. none_home x.plan i) (λ e. says_wrote _ c _ (null_fields_say n (end_of x.plan i) 32 (suc i) c))

  null_dense_says : (i n : ℕ) (c : List ℕ) → Says (why_null_dense x walk why i n c) (null_dense x walk i (walked n) c)
  unfolding why_null_dense why_null_home null_dense
  null_dense_says i n c =
      says_found 32 _ (no_home x.plan i) c _ _ refl (λ e. none_home x.plan i)
      (λ e. says_need _ 6 c _ refl (λ f. over_offset 4 i _ _ four_wide (omega arith)) (λ f. says_wrote _ c _ (says_wrote _ c _ (below _ n c))))

  end_says : (w i n : ℕ) (c : List ℕ) (o : Out) → Wide w → Passes o → Says (why_null_end x walk why w i n c) (need (ltb (rows c i + walked n) (half w)) 7 c o)
  unfolding why_null_end
  end_says w i n c o z e =
      says_need _ 7 c _ refl (λ f. over_end_lem w i _ z (let h = ltb-false (rows c i + walked n) (half w) f in omega (arith, h)))
      (λ f. says_passes e)

  null_runs_say : (i n : ℕ) (c : List ℕ) → Says (why_null_runs x walk why i n c) (null_runs x walk i (walked n) c)
  unfolding why_null_runs null_runs grow_run add_run
  null_runs_say i n c =
      says_needed _ c
      (λ f. let z = wide_end (bytes_of x.plan (suc i)) (and_right (ltb (suc (suc i)) 32) _ f) in
      says_cond (eqb (gap c i) 2) (λ g. says_needed _ c (λ h. end_says (bytes_of x.plan (suc i)) i n c _ z (passes_wrote _ c)))
      (λ g. says_past (walk (suc (suc i)) 1 c) _ _ _ (λ h. below (suc (suc i)) 1 c) (λ c2. end_says (bytes_of x.plan (suc i)) i n c2 _ z (passes_next _ _ (passes_wrote _ c2) (λ c3. passes_done _)))))

  to : {w : Why} {o q : Out} → o ≡ q → Says w o → Says w q
  to {w} e s = subst (Says w) e s

  null_data_says : (i n : ℕ) (c : List ℕ) → Says (why_null_data x walk why (code_of x.plan i) i n c) (null_data x walk (code_of x.plan i) i (walked n) c)
  unfolding why_null_data
  null_data_says i n c = go (eqb code 21) (eqb code 22) (eqb code 23) refl refl refl
    where
      code : ℕ
      code = code_of x.plan i

      go : (e f g : Bool) → eqb code 21 ≡ e → eqb code 22 ≡ f → eqb code 23 ≡ g
          → Says (cond e (why_null_sparse x walk why i n c) (cond f (why_null_dense x walk why i n c) (cond g (why_null_runs x walk why i n c) (only (null_data x walk code i (walked n) c).ans))))
          (null_data x walk code i (walked n) c)
      go true f g s t u = to (null_sparse_lem x walk code i (walked n) c (eqb-true code 21 s)) (null_sparse_says i n c)
      go false true g s t u = to (null_dense_lem x walk code i (walked n) c (eqb-true code 22 t)) (null_dense_says i n c)
      go false false true s t u = to (null_runs_lem x walk code i (walked n) c (eqb-true code 23 u)) (null_runs_say i n c)
      go false false false s t u = quiet_blank _ (quiet_null x walk code i (walked n) c s t u)

  null_node_says : (i n : ℕ) (c : List ℕ) → Says (why_null_node x walk why i n c) (null_node x walk i (walked n) c)
  unfolding why_null_node null_node
  null_node_says i n c =
      says_cond (eqb (walked n) 0) (λ e. says_done c)
      (λ e. says_needed _ c (λ f. says_then _ _ (λ c2. passes_next _ _ (counted x i (walked n) c2) (λ c3. passes_done _)) (null_data_says i n c)))

-- WHAT STOPS NULLS
pub nulls_say : (x : Join) (depth i n : ℕ) (c : List ℕ) → Says (why_nulls x depth i n c) (null_walk x depth i (walked n) c)
unfolding why_nulls null_walk
nulls_say x zero i n c = says_fail c
nulls_say x (suc depth) i n c = null_node_says x (null_walk x depth) (why_nulls x depth) (λ k m d. nulls_say x depth k m d) i n c
