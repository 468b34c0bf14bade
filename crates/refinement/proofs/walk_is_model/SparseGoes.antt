-- Sparse unions: the walk goes with the model, where it does at the children. Assumes nothing.
use mathlib.Core.Path.{◌≡◌, refl, sym, ap, subst, fun_ext, ◌∙◌}
use mathlib.Core.Bool.{Bool}
use mathlib.Core.List.{List, ◌++◌, Memᴰ}
use Prim.Native.Nat.{ℕ, suc, ◌+◌, ◌≤◌}
use native.Mathlib.Omega.{arith}
use lib.ListN.{length, take, drop, replicate}
use Rattle.columnar.specs.Types.{Ty, t_sparse}
use Rattle.columnar.specs.Formed.{Ids}
use Rattle.columnar.specs.Reading.{Column, masks}
use Rattle.model.specs.Try.{Try, after}
use Rattle.model.specs.Mutable.{extend_node, nulls_node}
use Rattle.model.specs.Unions.{sparse_with}
use Rattle.model.specs.Transform.{Grown, Destination, extend_data}
use Rattle.walk.specs.State.{Join, code_of, end_of, id_of, rows, place, rows_in}
use Rattle.walk.specs.Log.{Out, put, wrote, next, need, found}
use Rattle.walk.specs.Copy.{Walk, copy_data, copy_sparse}
use Rattle.walk.specs.Nulls.{NullWalk, null_data, null_sparse, nullable_child, no_home}
use Rattle.refinement.specs.walk_is_model.Memory.{Memory, put_in}
use Rattle.refinement.specs.walk_is_model.Holds.{child_of, Worded, HoldsData}
use Rattle.refinement.proofs.walk_is_model.Goes.{Goes, goes_need, goes_map, goes_wrote}
use Rattle.refinement.proofs.walk_is_model.Owed.{Given, Copies, CopiesData, Fills, FillsData}
use Rattle.refinement.proofs.walk_is_model.UnionFields.{visit, copy_visits, null_visits, Steps, in_order_goes}
use Rattle.refinement.proofs.walk_is_model.UnionHome.{goes_home}
use Rattle.refinement.proofs.walk_is_model.UnionParts.{part_cut, part_rows}
use Rattle.refinement.proofs.walk_is_model.UnionOwn.{Left, put_own, own_put, own_kept, child_field, kids_held}
use Rattle.model.proofs.Names.{nulls_data}

sparse_copy_is : (x : Join) (inner : Walk) (i slot n : ℕ) (c : List ℕ) → code_of x.plan i ≡ 21
    → copy_data x inner (code_of x.plan i) i slot n c
    ≡ need (rows_in x (place x i 3) 1 slot n) 12 c
    (next (wrote (put i 1 (rows c i) (take n (drop (place x i 3 + slot) x.body))) c) (λ c2. visit x.plan (λ k c. inner k slot n c) (end_of x.plan i) 32 (suc i) c2))
unfolding copy_data copy_sparse
sparse_copy_is x inner i slot n c e =
    ap (λ z. copy_data x inner z i slot n c) e
    ∙ ap (λ z. need (rows_in x (place x i 3) 1 slot n) 12 c (next (wrote (put i 1 (rows c i) (take n (drop (place x i 3 + slot) x.body))) c) z))
    (fun_ext (λ c2. copy_visits x inner slot n (end_of x.plan i) 32 (suc i) c2))

sparse_null_is : (x : Join) (inner : NullWalk) (i n : ℕ) (c : List ℕ) → code_of x.plan i ≡ 21
    → null_data x inner (code_of x.plan i) i n c
    ≡ found 32 (nullable_child x.plan (end_of x.plan i) 32 (suc i)) (no_home x.plan i) c
    (λ h. next (wrote (put i 1 (rows c i) (replicate n (id_of x.plan h))) c) (λ c2. visit x.plan (λ k c. inner k n c) (end_of x.plan i) 32 (suc i) c2))
unfolding null_data null_sparse
sparse_null_is x inner i n c e =
    ap (λ z. null_data x inner z i n c) e
    ∙ ap (found 32 (nullable_child x.plan (end_of x.plan i) 32 (suc i)) (no_home x.plan i) c)
    (fun_ext (λ h. ap (next (wrote (put i 1 (rows c i) (replicate n (id_of x.plan h))) c)) (fun_ext (λ c2. null_visits x inner n (end_of x.plan i) 32 (suc i) c2))))

module _ (plan : List ℕ) (k : ℕ) (ids : List ℕ) (nullable : ℕ → Bool) (f : ℕ → Ty) (i : ℕ) (w : Worded plan (suc k) (t_sparse ids nullable f) i) (a : Ids ids) where
  -- ids behind those of node i, and then all the children
  sparse_with_lem : (step : ℕ → List ℕ → Out) (d : Grown (t_sparse ids nullable f)) (g : (e : ℕ) → Try (Destination (f e))) (new : List ℕ) (c : List ℕ) (μ : Memory)
      → ((e : ℕ) → Memᴰ e ids → Steps plan k nullable f (end_of plan i) (child_of plan i) step d.children g e)
      → length c ≡ 96 → rows c i ≡ length d.buffer1 → HoldsData plan (t_sparse ids nullable f) i d c μ
      → Goes μ (Left plan (t_sparse ids nullable f) i c μ) (sparse_with ids g new d) (next (wrote (put i 1 (rows c i) new) c) (λ c2. visit plan step (end_of plan i) 32 (suc i) c2))
  sparse_with_lem step d g new c μ steps long rows_are h =
      goes_wrote (put i 1 (rows c i) new) c _ (rows_are ∙ ap length (sym h.0))
      (goes_map
      (λ y c' μ' r. (
        subst (λ y. HoldsData plan (t_sparse ids nullable f) i y c' μ') (sym r.0)
            ((r.2.outside i (λ u v. omega arith)).at_same 1 ∙ put_own i 1 new μ ∙ ap (λ z. z ++ new) h.0, r.1),
        own_kept (omega arith) (omega arith) w.3 (own_put i 1 new μ) r.2,
      ))
      (in_order_goes plan k nullable f (end_of plan i) (child_of plan i) step d.children g
      (record { buffer1 = d.buffer1 ++ new; children = λ e. after (g e) (d.children e) })
      ids (suc i) 32 c (put_in i 1 new μ) w.4 a (omega (arith, w.2)) (λ e m. refl) steps long
      (kids_held plan k ids nullable f i w.4 (omega (arith, w.2)) d.children c c μ (put_in i 1 new μ) ((own_put i 1 new μ).others c) h.1)))

-- A SPARSE UNION'S COPIES
pub sparse_copies : (x : Join) (inner : Walk) (k : ℕ) (ids : List ℕ) (nullable : ℕ → Bool) (f : ℕ → Ty) (i m : ℕ) (ss : ℕ → Column (t_sparse ids nullable f))
    → Given x (suc k) (t_sparse ids nullable f) i m ss
    → ((e : ℕ) → Memᴰ e ids → Copies x inner (f e) (child_of x.plan i e) m (λ j. (ss j).body.children e)) → CopiesData x inner (t_sparse ids nullable f) i m ss
sparse_copies x inner k ids nullable f i m ss g kids slot n d c μ low high fine small long rows_are h =
    let s = (ss x.source).body in
    let rule = (g.obey x.source g.known).slots in
    let part = g.lent.body_is.0 in
    let fits : slot + n ≤ length s.ids = omega (arith, rule.hold) in
    let fit = fine.data_fine in
    rw (sparse_copy_is x inner i slot n c g.worded.1)
    (goes_need _ 12 c (part_rows x (place x i 3) (place x i 4) 1 slot n s.ids part (omega arith))
    (rw (← part_cut x.body (place x i 3) (place x i 4) s.ids part slot n fits)
    (sparse_with_lem x.plan k ids nullable f i g.worded g.formed.0 (λ k c. inner k slot n c) d.«data»
    (λ e. extend_node (masks (f e)) (extend_data (f e) m) (λ j. (ss j).body.children e) x.source slot n (d.«data».children e))
    (take n (drop slot s.ids)) c μ
    (λ e p c2 ν long2 held.
    kids e p slot n (d.«data».children e) c2 ν (omega (arith, rule.long e p)) (fit.kids_fine e p) (omega (arith, fit.kids_are e p)) long2 held)
    long (rows_are ∙ sym fit.ids_are) h)))

-- .. AND NULLS
pub sparse_fills : (x : Join) (inner : NullWalk) (k : ℕ) (ids : List ℕ) (nullable : ℕ → Bool) (f : ℕ → Ty) (i m : ℕ) (ss : ℕ → Column (t_sparse ids nullable f))
    → Given x (suc k) (t_sparse ids nullable f) i m ss
    → ((e : ℕ) → Memᴰ e ids → Fills x inner (f e) (child_of x.plan i e) m (λ j. (ss j).body.children e)) → FillsData x inner (t_sparse ids nullable f) i m ss
sparse_fills x inner k ids nullable f i m ss g kids n d c μ more fine keep small long h =
    let fit = fine.data_fine in
    let w = g.worded in
    rw (sparse_null_is x inner i n c w.1)
    (goes_home x.plan (λ e. Worded x.plan k (f e)) nullable i _ _ c ids w.4 g.formed.0 (omega (arith, w.2))
    (λ b p.
    rw (child_field x.plan k ids nullable f i w.4 (omega (arith, w.2)) b p).has_id
    (sparse_with_lem x.plan k ids nullable f i w g.formed.0 (λ k c. inner k n c) d.«data» (λ e. nulls_node (masks (f e)) (nulls_data (f e)) n (d.«data».children e))
    (replicate n b) c μ
    (λ e p c2 ν long2 held.
    kids e p n (d.«data».children e) c2 ν (fit.kids_fine e p) (keep.below e p) (omega (arith, fit.kids_are e p)) long2 held)
    long (h.rows_are ∙ sym fit.ids_are) h.data_are)))
