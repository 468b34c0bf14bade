-- The loop over the nodes of every type is the walk of its column. Assumes nothing.
use mathlib.Core.Path.{◌≡◌, refl, sym, ap, ap₂, ◌∙◌}
use mathlib.Core.Bool.{false, cond}
use mathlib.Core.List.Memᴰ
use mathlib.Core.List.{List, Memᴰ}
use Prim.Native.Nat.{ℕ, zero, suc, ◌+◌, ◌-◌, ◌≤◌, ◌<◌, min}
use native.Mathlib.Omega.{arith}
use lib.ListN.{length, replicate}
use Rattle.columnar.specs.Row.{seg}
use Rattle.columnar.specs.Types.{fixed, Ty, t_run_end}
use Rattle.columnar.specs.Array.{item}
use Rattle.columnar.specs.Entries.{encodes}
use Rattle.columnar.specs.RunEnd.{RunEnd, end_of, first_above}
use Rattle.columnar.specs.Test.{member}
use Rattle.columnar.specs.Wider.{Declared}
use Rattle.columnar.proofs.WiderKinds.{declares}
use Rattle.array_data.specs.Tables.{Tables, length_of, offset_of, first_buffer, array_with}
use Rattle.array_data.specs.NodeKinds.{NodeKind, fixed_node, view_node, list_view_node, list_node, sparse_node, dense_node, run_end_node, dictionary_node}
use Rattle.array_data.specs.Typed.{Tree, node_of, field_of, plain_body, body_of, column_of, kind_in, subtree_end}
use Rattle.array_data.proofs.type_tree.Ids.{field_in_lem}
use Rattle.walk.specs.State.{add_rows}
use Rattle.walk.specs.Log.{Out, put, done, wrote, need, next}
use Rattle.refinement.specs.walk_is_model.Holds.{child_of}
use Rattle.anew.specs.widths.Widths.{Widths, s_plain, s_view, s_list_view, s_list, s_sparse, s_dense, s_run_end, s_dictionary}
use Rattle.anew.specs.widths.Converted.{span_of, first_of, many_of, pick}
use Rattle.anew.proofs.widths.Fits.{picked}
use Rattle.width_walks.specs.Convert.{fields_walk, node_walk, plain_walk, body_walk, convert_walk}
use Rattle.width_walks.specs.Nodes.{from_in, many_in, range, is_run, runs_at, settle, own_walk, turn, nodes_walk, ranges_behind, tree_walk}
use Rattle.width_walks.proofs.Outs.{next_same, next_assoc, next_start_lem, next_need}
use Rattle.width_walks.proofs.Ranges.{range_long, own_from, own_many, children_kept, child_range}
use Rattle.width_walks.proofs.Laid.{LaidFields, no_field, a_field, Laid}
use Rattle.width_walks.proofs.Loop.{Loop, Free, loop_split, node_by, loop_none, leaf_end, plain_loop}
use Rattle.width_walks.proofs.Subtrees.{laid_spans, plain_settles, laid_up, kept_law}

module _ (t t' : Tree) (x : Tables) (plan : List ℕ) where
  abbrev pub LoopLaw : {u u' : Ty} → Widths u u' → Type 0
  LoopLaw {u} {u'} d =
      (i m : ℕ) → Laid t t' plan d i → m + i ≡ subtree_end t i → Free t t' x plan i → subtree_end t i ≤ 32 → (rs : List ℕ) → length rs ≡ 64 → (c : List ℕ)
      → Loop t t' x plan m i rs c ≡ node_walk plan i (body_walk plan d i) (column_of t x u i) (from_in rs i) (many_in rs i) c

  -- a child whose rows were settled
  child_loop : {u u' : Ty} (d : Widths u u') → LoopLaw d → (i m a n : ℕ) → Laid t t' plan d i → m + i ≡ subtree_end t i → Free t t' x plan i → i < subtree_end t i → subtree_end t i ≤ 32 → (rs : List ℕ) → length rs ≡ 64 → (c : List ℕ)
      → Loop t t' x plan m i (range i a n rs) c ≡ node_walk plan i (body_walk plan d i) (column_of t x u i) a n c
  child_loop {u} {u'} d law i m a n l h free up low rs long c =
      law i m l h free low (range i a n rs) (range_long i a n rs ∙ long) c
      ∙ ap₂ (λ y z. node_walk plan i (body_walk plan d i) (column_of t x u i) y z c) (own_from i a n rs long (omega arith)) (own_many i a n rs long (omega arith))

  -- ---- the fields of a union

  behind_first : {i : ℕ} {ids : List ℕ} {kid : ℕ → ℕ → Type 0} {e : ℕ} {cs : List ℕ} {k : ℕ} → LaidFields t t' plan i ids kid e cs k → (c : ℕ) → Memᴰ c cs → k ≤ node_of t i ids c
  behind_first (no_field k q) c m = absurd (Memᴰ.not-nil m)
  behind_first {i} {ids} (a_field c ds k l p n a b r f) e (Memᴰ.head q) = omega (arith, n, ap (node_of t i ids) q)
  behind_first {i} {ids} (a_field c ds k l p n a b r f) e (Memᴰ.tail q) = omega (arith, a, behind_first f e q)

  module _ {f f' : ℕ → Ty} (i : ℕ) (ids : List ℕ) (d : (c : ℕ) → Declared ids c → Widths (f c) (f' c)) (law : (c : ℕ) (m : Declared ids c) → LoopLaw (d c m)) (from many : ℕ → ℕ) (e : ℕ) (low : e ≤ 32) where
    abbrev walked : ℕ → List ℕ → Out
    walked q =
        pick (member q ids) (λ y. node_walk plan (child_of plan i q) (body_walk plan (d q y) (child_of plan i q)) (array_with x (body_of t x (f q) (node_of t i ids q)) (node_of t i ids q)) (from q) (many q))
        (λ c2. done c2)

    -- the rows of a field are as they were settled
    abbrev Settled : List ℕ → List ℕ → Type 0
    Settled cs rs = (c : ℕ) → Memᴰ c cs → (from_in rs (node_of t i ids c) ≡ from c) × (many_in rs (node_of t i ids c) ≡ many c)

    one : (c k : ℕ) (m : Memᴰ c ids) → Laid t t' plan (d c (declares c ids m)) k → child_of plan i c ≡ k → node_of t i ids c ≡ k → Free t t' x plan k → k < subtree_end t k → subtree_end t k ≤ 32
        → (rs : List ℕ) → length rs ≡ 64 → (from_in rs (node_of t i ids c) ≡ from c) × (many_in rs (node_of t i ids c) ≡ many c) → (cs : List ℕ) → Loop t t' x plan (subtree_end t k - k) k rs cs ≡ walked c cs
    one c k m l p n free up small rs long r cs =
        law c (declares c ids m) k (subtree_end t k - k) l (omega arith) free small rs long cs
        ∙ ap₂ (λ y z. node_walk plan k (body_walk plan (d c (declares c ids m)) k) (column_of t x (f c) k) y z cs) (ap (from_in rs) (sym n) ∙ r.0) (ap (many_in rs) (sym n) ∙ r.1)
        ∙ ap (λ z. node_walk plan k (body_walk plan (d c (declares c ids m)) k) (column_of t x (f c) z) (from c) (many c) cs) (sym n)
        ∙ ap (λ z. node_walk plan z (body_walk plan (d c (declares c ids m)) z) (column_of t x (f c) (node_of t i ids c)) (from c) (many c) cs) (sym p)
        ∙ sym (ap (λ z. z cs) (picked (member c ids) (λ y. node_walk plan (child_of plan i c) (body_walk plan (d c y) (child_of plan i c)) (array_with x (body_of t x (f c) (node_of t i ids c)) (node_of t i ids c)) (from c) (many c)) (λ c2. done c2) (declares c ids m)))

    fields_loop : {cs : List ℕ} {k : ℕ} (m : ℕ) → ((c : ℕ) → Memᴰ c cs → Memᴰ c ids) → LaidFields t t' plan i ids (λ c k. (m : Declared ids c) → Laid t t' plan (d c m) k) e cs k → m + k ≡ e
        → (rs : List ℕ) → length rs ≡ 64 → Settled cs rs → (c : List ℕ) → Loop t t' x plan m k rs c ≡ fields_walk cs walked c
    fields_loop m sub (no_field k q) h rs long r c = ap (λ z. Loop t t' x plan z k rs c) (let y : m ≡ zero = omega (arith, q) in y) ∙ loop_none t t' x plan k rs c
    fields_loop m sub (a_field c ds k l p n a b free g) h rs long r cs =
        let m1 = subtree_end t k - k in
        let m2 = e - subtree_end t k in
        let s : m1 + k ≡ subtree_end t k = omega (arith, a) in
        let q = sub c (Memᴰ.head refl) in
        let kept = kept_law t t' x plan (f c) (f' c) (d c (declares c ids q)) k m1 (l (declares c ids q)) s rs in
        loop_split t t' x plan m1 m2 m k rs cs (omega (arith, a, b))
        ∙ ap (λ z. next z (λ c2. Loop t t' x plan m2 (m1 + k) (ranges_behind t t' x plan m1 k rs) c2)) (one c k q (l (declares c ids q)) p n free a (omega (arith, b, low)) rs long (r c (Memᴰ.head refl)) cs)
        ∙ next_same (walked c cs) (λ c2. Loop t t' x plan m2 (m1 + k) (ranges_behind t t' x plan m1 k rs) c2) (λ c2. fields_walk ds walked c2)
        (λ c2. ap (λ z. Loop t t' x plan m2 z (ranges_behind t t' x plan m1 k rs) c2) s
        ∙ fields_loop m2 (λ c z. sub c (Memᴰ.tail z)) g (omega (arith, b)) (ranges_behind t t' x plan m1 k rs) (kept.long ∙ long)
        (λ c3 z. let o = kept.outside (node_of t i ids c3) (λ u v. omega (arith, behind_first g c3 z)) in (o.same_from ∙ (r c3 (Memᴰ.tail z)).0, o.same_many ∙ (r c3 (Memᴰ.tail z)).1)) c2)

  -- ---- every type

  suc_of : (m i e : ℕ) → m + i ≡ e → i < e → m ≡ suc (m - 1)
  suc_of m i e h l = omega arith

  free_of : (i : ℕ) (k : NodeKind) → kind_in t i ≡ k → is_run k ≡ false → Free t t' x plan (suc i)
  free_of i k e q j z = ap (λ y. is_run (kind_in t y)) (let y : j ≡ i = omega arith in y) ∙ ap is_run e ∙ q

  runs_same : {P : Type 0} (w : ℕ) (b : RunEnd P) (i s n : ℕ) → b.ends ≡ (runs_at t t' x plan i).ends
      → (first_of w (runs_at t t' x plan i) s n ≡ first_of w b s n) × (many_of w (runs_at t t' x plan i) s n ≡ many_of w b s n)
  runs_same w b i s zero e = (refl, refl)
  runs_same w b i s (suc n) e = (
    sym (ap (λ z. first_above (end_of w z) s 0 z.len) e),
    sym (ap (λ z. suc (first_above (end_of w z) (s + suc n - 1) 0 z.len) - first_above (end_of w z) s 0 z.len) e),
  )

  -- the run ends' own turn, and then their values
  ends_turn : (i m w : ℕ) (v v' : Ty) {w' : ℕ} (d : Widths v v') (rs : List ℕ) → Laid t t' plan (s_run_end w w' v v' d) i → 2 < suc m → LoopLaw d → suc (suc i) < subtree_end t (suc (suc i)) → subtree_end t i ≤ 32 → m + i ≡ subtree_end t i → length rs ≡ 64 → (c : List ℕ)
      → Loop t t' x plan (m - 1) (suc i) (range (suc (suc i)) (first_of w (runs_at t t' x plan i) (offset_of x i + from_in rs i) (many_in rs i)) (many_of w (runs_at t t' x plan i) (offset_of x i + from_in rs i) (many_in rs i)) rs) c
      ≡ node_walk plan (suc (suc i)) (body_walk plan d (suc (suc i))) (column_of t x v (suc (suc i))) (first_of w (runs_at t t' x plan i) (offset_of x i + from_in rs i) (many_in rs i)) (many_of w (runs_at t t' x plan i) (offset_of x i + from_in rs i) (many_in rs i)) c
  unfolding nodes_walk turn
  ends_turn i m w v v' d rs l two law up low h long c =
      let e : subtree_end t i ≡ subtree_end t (suc (suc i)) = l.2 in
      let a = first_of w (runs_at t t' x plan i) (offset_of x i + from_in rs i) (many_in rs i) in
      let n = many_of w (runs_at t t' x plan i) (offset_of x i + from_in rs i) (many_in rs i) in
      let r1 = range (suc (suc i)) a n rs in
      ap (λ z. nodes_walk t t' x plan z (suc i) r1 c) (let y : m - 1 ≡ suc (m - 2) = omega arith in y)
      ∙ ap (λ z. next (cond (is_run z) (done c) (own_walk t t' x plan (suc i) (from_in r1 (suc i)) (many_in r1 (suc i)) c)) (λ c2. nodes_walk t t' x plan (m - 2) (suc (suc i)) (settle t t' x plan (suc i) r1) c2)) l.0.here
      ∙ next_start_lem c (λ c2. nodes_walk t t' x plan (m - 2) (suc (suc i)) (settle t t' x plan (suc i) r1) c2)
      ∙ ap (λ z. nodes_walk t t' x plan (m - 2) (suc (suc i)) z c) (plain_settles t t' x plan (fixed l.1.0) (suc i) r1 l.1.1)
      ∙ child_loop d law (suc (suc i)) (m - 2) a n l.3 (omega (arith, e)) (free_of (suc i) (fixed_node l.1.0) l.1.1 refl) up (omega (arith, e)) rs long c

  pub loop_law : (u u' : Ty) (d : Widths u u') → LoopLaw d
  loop_law u u' (s_plain p p' d) i m l h free low rs long c = plain_loop t t' x plan p p' d i m (omega (arith, l.1)) l.0 free rs c
  loop_law u u' s_view i m l h free low rs long c =
      ap (λ z. Loop t t' x plan z i rs c) (let y : m ≡ suc zero = omega (arith, l.1) in y)
      ∙ node_by t t' x plan (body_walk plan s_view i) (body_of t x u i) i zero view_node view_node l.0 free rs c (λ c1. leaf_end t t' x plan _ (suc i) _)
  loop_law u u' (s_list_view w w' v v' d) i m l h free low rs long c =
      let e : subtree_end t i ≡ subtree_end t (suc i) = l.1 in
      let up = laid_up t t' x plan v v' d (suc i) l.2 in
      ap (λ z. Loop t t' x plan z i rs c) (suc_of m i (subtree_end t i) h (omega (arith, e)))
      ∙ node_by t t' x plan (body_walk plan (s_list_view w w' v v' d) i) (body_of t x u i) i (m - 1) (list_view_node w) (list_view_node w') l.0 free rs c
      (λ c1. next_need _ 6 c1 _ _ (omega arith)
      ∙ ap (need _ 6 c1)
      (next_need _ 6 c1 _ _ (omega arith)
      ∙ ap (need _ 6 c1)
      (next_assoc _ _ _
      ∙ next_same _ _ _ (λ c2. next_same _ _ _ (λ c3. child_loop d (loop_law v v' d) (suc i) (m - 1) 0 (length_of x (suc i)) l.2 (omega (arith, e)) (free_of i (list_view_node w) l.0.here refl) up (omega (arith, e)) rs long c3)))))
  loop_law u u' (s_list w w' v v' d) i m l h free low rs long c =
      let e : subtree_end t i ≡ subtree_end t (suc i) = l.1 in
      let up = laid_up t t' x plan v v' d (suc i) l.2 in
      ap (λ z. Loop t t' x plan z i rs c) (suc_of m i (subtree_end t i) h (omega (arith, e)))
      ∙ node_by t t' x plan (body_walk plan (s_list w w' v v' d) i) (body_of t x u i) i (m - 1) (list_node w) (list_node w') l.0 free rs c
      (λ c1. next_need _ 6 c1 _ _ (omega arith)
      ∙ ap (need _ 6 c1)
      (next_same _ _ _ (λ c3. child_loop d (loop_law v v' d) (suc i) (m - 1) (item w (first_buffer x i) (offset_of x i + from_in rs i)) (span_of w (first_buffer x i) (offset_of x i + from_in rs i) (many_in rs i)) l.2 (omega (arith, e)) (free_of i (list_node w) l.0.here refl) up (omega (arith, e)) rs long c3)))
  loop_law u u' (s_sparse ids nullable nullable' f f' q d) i m l h free low rs long c =
      ap (λ z. Loop t t' x plan z i rs c) (suc_of m i (subtree_end t i) h l.1)
      ∙ node_by t t' x plan (body_walk plan (s_sparse ids nullable nullable' f f' q d) i) (body_of t x u i) i (m - 1) (sparse_node ids) (sparse_node ids) l.0 free rs c
      (λ c1. next_same _ _ _ (λ c2. fields_loop i ids d (λ e y. loop_law (f e) (f' e) (d e y)) (λ e. offset_of x i + from_in rs i) (λ e. many_in rs i) (subtree_end t i) low (m - 1) (λ e z. z) l.2 (omega (arith, l.1)) _
      ((children_kept t t' x plan (λ k. offset_of x i + from_in rs i) (λ k. many_in rs i) i _ ids (laid_spans l.2) (length ids) (omega arith) rs).long ∙ long)
      (λ e z. child_range t t' x plan (λ k. offset_of x i + from_in rs i) (λ k. many_in rs i) i _ ids (laid_spans l.2) low (length ids) (omega arith) rs long (field_of ids e) (field_in_lem ids e z)) c2))
  loop_law u u' (s_dense ids nullable nullable' f f' q d) i m l h free low rs long c =
      ap (λ z. Loop t t' x plan z i rs c) (suc_of m i (subtree_end t i) h l.1)
      ∙ node_by t t' x plan (body_walk plan (s_dense ids nullable nullable' f f' q d) i) (body_of t x u i) i (m - 1) (dense_node ids) (dense_node ids) l.0 free rs c
      (λ c1. next_assoc _ _ _
      ∙ next_same _ _ _ (λ c2. next_same _ _ _ (λ c3. fields_loop i ids d (λ e y. loop_law (f e) (f' e) (d e y)) (λ e. 0) (λ e. length_of x (node_of t i ids e)) (subtree_end t i) low (m - 1) (λ e z. z) l.2 (omega (arith, l.1)) _
      ((children_kept t t' x plan (λ k. 0) (length_of x) i _ ids (laid_spans l.2) (length ids) (omega arith) rs).long ∙ long)
      (λ e z. child_range t t' x plan (λ k. 0) (length_of x) i _ ids (laid_spans l.2) low (length ids) (omega arith) rs long (field_of ids e) (field_in_lem ids e z)) c3)))
  loop_law u u' (s_run_end w w' v v' d) i m l h free low rs long c =
      let e : subtree_end t i ≡ subtree_end t (suc (suc i)) = l.2 in
      let up = laid_up t t' x plan v v' d (suc (suc i)) l.3 in
      let s = offset_of x i + from_in rs i in
      let n = many_in rs i in
      let b = body_of t x (t_run_end w v) i in
      let r = runs_same w b i s n refl in
      ap (λ z. Loop t t' x plan z i rs c) (suc_of m i (subtree_end t i) h (omega (arith, e)))
      ∙ node_by t t' x plan (body_walk plan (s_run_end w w' v v' d) i) b i (m - 1) (run_end_node w) (run_end_node w') l.0 free rs c
      (λ c1. next_need _ 7 c1 _ _ (omega arith)
      ∙ ap (need _ 7 c1)
      (next_assoc _ _ _
      ∙ next_same _ _ _ (λ c2. next_start_lem _ _ ∙ ends_turn i m w v v' d rs l (omega (arith, e)) (loop_law v v' d) up low h long (add_rows (suc i) (many_of w (runs_at t t' x plan i) s n) c2))
      ∙ ap₂ (λ a y. next (wrote (put (suc i) 1 0 (encodes w' (seg (λ k. min (end_of w b.ends k) (s + n) - s) a y))) c1) (λ c2. node_walk plan (suc (suc i)) (body_walk plan d (suc (suc i))) b.values a y (add_rows (suc i) y c2))) r.0 r.1))
  loop_law u u' (s_dictionary k k' p p' z z' d) i m l h free low rs long c =
      let e : subtree_end t i ≡ suc (suc i) = l.2 in
      ap (λ z. Loop t t' x plan z i rs c) (suc_of m i (subtree_end t i) h (omega (arith, e)))
      ∙ node_by t t' x plan (body_walk plan (s_dictionary k k' p p' z z' d) i) (body_of t x u i) i (m - 1) (dictionary_node k) (dictionary_node k') l.0 free rs c
      (λ c1. next_need _ 8 c1 _ _ (omega arith)
      ∙ ap (need _ 8 c1)
      (next_same _ _ _ (λ c3. plain_loop t t' x plan p p' d (suc i) (m - 1) (omega (arith, e)) l.1 (free_of i (dictionary_node k) l.0.here refl) (range (suc i) 0 (length_of x (suc i)) rs) c3
      ∙ ap₂ (λ a n. node_walk plan (suc i) (plain_walk plan d (suc i)) (array_with x (plain_body t x p (suc i)) (suc i)) a n c3) (own_from (suc i) 0 (length_of x (suc i)) rs long (omega (arith, e))) (own_many (suc i) 0 (length_of x (suc i)) rs long (omega (arith, e))))))

  -- THE LOOP OVER ALL NODES IS THE WALK OF THE COLUMN
  pub tree_is : (u u' : Ty) (d : Widths u u') → Laid t t' plan d 0 → t.count ≡ subtree_end t 0 → subtree_end t 0 ≤ 32 → (c : List ℕ) → tree_walk t t' x plan c ≡ convert_walk plan u u' d (column_of t x u 0) c
  unfolding tree_walk
  tree_is u u' d l e low c =
      child_loop d (loop_law u u' d) 0 t.count 0 (length_of x 0) l (let y : t.count + 0 ≡ subtree_end t 0 = omega (arith, e) in y) (λ j z. absurd (omega arith)) (laid_up t t' x plan u u' d 0 l) low (replicate 64 0) refl c
