-- The trees of a column and of its target are laid as the loop over nodes needs them. Assumes nothing.
use mathlib.Core.Path.{◌≡◌, refl, sym, ap, ap₂, subst, ◌∙◌}
use mathlib.Core.Bool.{Bool, true, false, cond}
use mathlib.Core.List.{List, [], ◌∷◌, ◌++◌, append-nil, append_assoc, Memᴰ}
use Prim.Native.Nat.{ℕ, zero, suc, ◌+◌, ◌-◌, ◌≤◌, ◌<◌}
use native.Mathlib.Omega.{arith}
use lib.ListN.{length, length-append}
use lib.Dec.{ltb, eqb}
use borrow.Author.Tests.{ltb-true, ltb-false, eq-eqb, ne_eqb}
use Rattle.columnar.specs.Types.{Number, Plain, fixed, string, Ty}
use Rattle.columnar.specs.Formed.{Ids}
use Rattle.columnar.specs.Wider.{Declared}
use Rattle.schema.specs.Tree.{below, end_from, end_of, child_at, whole, ceilings, typed}
use Rattle.schema.proofs.Trees.{children_end, end_after, end_inside, child_inside}
use Rattle.schema.proofs.Depth.{child_before}
use Rattle.schema.proofs.Known.{typed_whole, typed_shape}
use Rattle.array_data.specs.NodeKinds.{NodeKind, fixed_node, string_node, view_node, list_view_node, list_node, sparse_node, dense_node, run_end_node, dictionary_node, kind_at}
use Rattle.array_data.specs.Typed.{Tree, child_node, node_of, field_of, Is, MeansPlain, Means, kind_in}
use Rattle.array_data.specs.type_tree.Lent.{tree_of, type_of}
use Rattle.array_data.proofs.type_tree.Shaped.{Shaped, of_plain_lem, of_view, of_list, of_lists_lem, of_sparse, of_dense, of_run_lem, of_dictionary, shaped}
use Rattle.array_data.proofs.type_tree.Lent.{child_same, after_leaf, second_child, means}
use Rattle.refinement.specs.walk_is_model.Holds.{child_of}
use Rattle.anew.specs.widths.Widths.{PlainWidths, s_fixed, s_string, Widths, s_plain, s_view, s_list_view, s_list, s_sparse, s_dense, s_run_end, s_dictionary}
use Rattle.width_walks.specs.target_rules.Target.{NodeWidths, Target}
use Rattle.width_walks.proofs.target_rules.Before.{prev, prev_child}
use Rattle.width_walks.specs.Nodes.{is_run}
use Rattle.width_walks.proofs.Laid.{plain_node, Both, LaidFields, no_field, a_field, Laid}
use Rattle.array_data.proofs.Names.{union_kind}

-- ---- ids

-- the field of an id behind others
field_at : (pre : List ℕ) (c : ℕ) (cs : List ℕ) → Ids (pre ++ (c ∷ cs)) → field_of (pre ++ (c ∷ cs)) c ≡ length pre
field_at [] c cs h = ap (λ b. cond b 0 (suc (field_of cs c))) (eq-eqb c c refl)
field_at (p ∷ ps) c cs h =
    ap (λ b. cond b 0 (suc (field_of (ps ++ (c ∷ cs)) c))) (ne_eqb c p (λ e. h.1 (subst (λ z. Memᴰ z (ps ++ (c ∷ cs))) e (in_list ps)))) ∙ ap suc (field_at ps c cs h.2)
  where
    in_list : (ps : List ℕ) → Memᴰ c (ps ++ (c ∷ cs))
    in_list [] = mathlib.Core.List.Memᴰ.head refl
    in_list (q ∷ qs) = mathlib.Core.List.Memᴰ.tail (in_list qs)

member_behind : (pre cs : List ℕ) (c : ℕ) → Memᴰ c cs → Memᴰ c (pre ++ cs)
member_behind [] cs c m = m
member_behind (p ∷ ps) cs c m = mathlib.Core.List.Memᴰ.tail (member_behind ps cs c m)

-- ---- how much stands below a kind

module _ (formats schema : List ℕ) (first : ℕ) where
  abbrev pub BelowAs : ℕ → NodeKind → Type 0
  BelowAs i (fixed_node m) = below schema first i ≡ 0
  BelowAs i (string_node w) = below schema first i ≡ 0
  BelowAs i view_node = below schema first i ≡ 0
  BelowAs i (list_view_node w) = below schema first i ≡ 1
  BelowAs i (list_node w) = below schema first i ≡ 1
  BelowAs i (sparse_node ids) = (below schema first i ≡ length ids) × Ids ids
  BelowAs i (dense_node ids) = (below schema first i ≡ length ids) × Ids ids
  BelowAs i (run_end_node w) = (below schema first i ≡ 2) × (below schema first (suc i) ≡ 0) × ((m : Number) × (kind_at formats schema first (suc i) ≡ fixed_node m))
  BelowAs i (dictionary_node m) = (below schema first i ≡ 1) × (below schema first (suc i) ≡ 0)

  pub below_of_lem : (i : ℕ) → Shaped formats schema first i → BelowAs i (kind_at formats schema first i)
  below_of_lem i (of_plain_lem (fixed m) e z d) = subst (BelowAs i) (sym e) z
  below_of_lem i (of_plain_lem (string v) e z d) = subst (BelowAs i) (sym e) z
  below_of_lem i (of_view e z) = subst (BelowAs i) (sym e) z
  below_of_lem i (of_list v e z d) = subst (BelowAs i) (sym e) z
  below_of_lem i (of_lists_lem v e z d) = subst (BelowAs i) (sym e) z
  below_of_lem i (of_sparse ids e z d o) = subst (BelowAs i) (sym e) (z, d)
  below_of_lem i (of_dense ids e z d o) = subst (BelowAs i) (sym e) (z, d)
  below_of_lem i (of_run_lem m e z e1 z1 d) = subst (BelowAs i) (sym e) (z, z1, (m, e1))
  below_of_lem i (of_dictionary m p e z e1 z1 g d) = subst (BelowAs i) (sym e) (z, z1)

-- ---- two trees of n nodes, and a plan that finds the fields of unions where the column's tree has them

module _ (formats schema : List ℕ) (first first' n : ℕ) (plan : List ℕ) (t : typed formats schema first n ≡ true)
    (found : (i : ℕ) (b : Bool) (ids : List ℕ) → Is (tree_of formats schema first' n) i (union_kind b ids) → (c : ℕ) → Memᴰ c ids → child_of plan i c ≡ node_of (tree_of formats schema first' n) i ids c) where
  abbrev here : Tree
  here = tree_of formats schema first n

  abbrev there : Tree
  there = tree_of formats schema first' n

  w : whole schema first n ≡ true
  w = typed_whole formats schema first n t

  below_at_lem : (i : ℕ) (k : NodeKind) → i < n → kind_in here i ≡ k → BelowAs formats schema first i k
  below_at_lem i k l e = subst (BelowAs formats schema first i) e (below_of_lem formats schema first i (shaped formats schema first i (typed_shape formats schema first n t i l)))

  run_big : (m : ℕ) → m < n → is_run (kind_at formats schema first m) ≡ true → 0 < below schema first m
  run_big m l h = go (kind_at formats schema first m) refl h
    where
      no : {A : Type 0} → false ≡ true → A
      no e = absurd (let z : ◌≡◌ {A = ℕ} 0 1 = cc e in omega arith)

      go : (k : NodeKind) → kind_at formats schema first m ≡ k → is_run k ≡ true → 0 < below schema first m
      go (fixed_node a) e q = no q
      go (string_node a) e q = no q
      go view_node e q = no q
      go (list_view_node a) e q = no q
      go (list_node a) e q = no q
      go (sparse_node a) e q = no q
      go (dense_node a) e q = no q
      go (run_end_node a) e q = let b = (below_at_lem m (run_end_node a) l e).0 in omega (arith, b)
      go (dictionary_node a) e q = no q

  -- a child of a node that is no run-end node is no run ends
  free_child : (i j : ℕ) → i < n → j < below schema first i → is_run (kind_at formats schema first i) ≡ false → (m : ℕ) → suc m ≡ child_at schema first n i j → is_run (kind_at formats schema first m) ≡ false
  free_child i j l h q m e =
      subst (λ z. prev schema first n w (λ m. is_run (kind_at formats schema first m)) run_big z ≡ false) (sym e) (prev_child schema first n w (λ m. is_run (kind_at formats schema first m)) run_big i j l h q)

  plain_both : (p p' : Plain) (d : PlainWidths p p') (i : ℕ) → MeansPlain here p i → MeansPlain there p' i → Both here there plan i (plain_node p) (plain_node p')
  plain_both p p' (s_fixed m) i h h' = record { here = h.1; there = h'.1 }
  plain_both p p' (s_string a b) i h h' = record { here = h.1; there = h'.1 }

  plain_below : (p : Plain) (i : ℕ) → MeansPlain here p i → (i < n) × (below schema first i ≡ 0)
  plain_below (fixed m) i h = (h.0, below_at_lem i (fixed_node m) h.0 h.1)
  plain_below (string v) i h = (h.0, below_at_lem i (string_node v) h.0 h.1)

  one_end : (i : ℕ) → i < n → below schema first i ≡ 1 → end_of schema first n i ≡ end_of schema first n (suc i)
  unfolding child_at
  one_end i l b = sym (children_end schema first n i l) ∙ ap (child_at schema first n i) b

  -- ---- the fields of a union

  module _ (i : ℕ) (l : i < n) (ids : List ℕ) (b : below schema first i ≡ length ids) (dis : Ids ids) (free : is_run (kind_at formats schema first i) ≡ false)
      (spot : (c : ℕ) → Memᴰ c ids → child_of plan i c ≡ node_of here i ids c) (kid : ℕ → ℕ → Type 0) (kids : (c : ℕ) → Memᴰ c ids → kid c (node_of here i ids c)) where
    next_end : (p : ℕ) → p < length ids → child_at schema first n i (suc p) ≤ end_of schema first n i
    next_end p q = go (ltb (suc p) (length ids)) refl
      where
        go : (z : Bool) → ltb (suc p) (length ids) ≡ z → child_at schema first n i (suc p) ≤ end_of schema first n i
        go true e = let y = child_before schema first n w i (suc p) l (omega (arith, b, ltb-true (suc p) (length ids) e)) in omega arith
        go false e =
            let y : suc p ≡ below schema first i = omega (arith, b, ltb-false (suc p) (length ids) e) in
            omega (arith, ap (child_at schema first n i) y, children_end schema first n i l)

    fields_from : (pre cs : List ℕ) → pre ++ cs ≡ ids → LaidFields here there plan i ids kid (end_of schema first n i) cs (child_at schema first n i (length pre))
    unfolding child_at
    fields_from pre [] e =
        no_field (child_at schema first n i (length pre)) (ap (λ z. child_at schema first n i (length z)) (sym (append-nil pre) ∙ e) ∙ ap (child_at schema first n i) (sym b) ∙ children_end schema first n i l)
    fields_from pre (c ∷ cs) e =
        let m : Memᴰ c ids = subst (Memᴰ c) e (member_behind pre (c ∷ cs) c (mathlib.Core.List.Memᴰ.head refl)) in
        let p : length pre < length ids = omega (arith, ap length e, length-append pre (c ∷ cs)) in
        let f : field_of ids c ≡ length pre = subst (λ z. field_of z c ≡ length pre) e (field_at pre c cs (subst Ids (sym e) dis)) in
        let q : node_of here i ids c ≡ child_at schema first n i (length pre) = ap (child_node here i) f ∙ sym (child_same formats schema first n i (length pre)) in
        let k = child_inside schema first n w i (length pre) l (omega (arith, b)) in
        let z : length (pre ++ (c ∷ [])) ≡ suc (length pre) = length-append pre (c ∷ []) ∙ (let y : length pre + 1 ≡ suc (length pre) = omega arith in y) in
        a_field c cs (child_at schema first n i (length pre)) (subst (kid c) q (kids c m)) (spot c m ∙ q) q (end_after schema first n (child_at schema first n i (length pre)) k) (next_end (length pre) p)
        (free_child i (length pre) l (omega (arith, b)) free)
        (subst (LaidFields here there plan i ids kid (end_of schema first n i) cs) (ap (child_at schema first n i) z) (fields_from (pre ++ (c ∷ [])) cs (append_assoc pre (c ∷ []) cs ∙ e)))

  -- ---- every type

  laid_at : (u u' : Ty) (d : Widths u u') (i : ℕ) → Means here u i → Means there u' i → ((i j : ℕ) → i < n → child_node there i j ≡ child_node here i j) → Laid here there plan d i
  unfolding child_at
  laid_at u u' (s_plain p p' d) i h h' f = let b = plain_below p i h in (plain_both p p' d i h h', after_leaf formats schema first n i b.0 b.1)
  laid_at u u' s_view i h h' f = (record { here = h.1; there = h'.1 }, after_leaf formats schema first n i h.0 (below_at_lem i view_node h.0 h.1))
  laid_at u u' (s_list_view a a' v v' d) i h h' f = (
    record { here = h.0.1; there = h'.0.1 },
    one_end i h.0.0 (below_at_lem i (list_view_node a) h.0.0 h.0.1),
    laid_at v v' d (suc i) h.1 h'.1 f,
  )
  laid_at u u' (s_list a a' v v' d) i h h' f = (
    record { here = h.0.1; there = h'.0.1 },
    one_end i h.0.0 (below_at_lem i (list_node a) h.0.0 h.0.1),
    laid_at v v' d (suc i) h.1 h'.1 f,
  )
  laid_at u u' (s_sparse ids nullable nullable' g g' e d) i h h' f =
      let k = h.0.1 in
      let l = h.0.0 in
      let b = below_at_lem i (sparse_node ids) l k in (
        record { here = k; there = h'.0.1 },
        end_after schema first n i l,
        fields_from i l ids b.0 b.1 (ap is_run k) (λ c m. found i true ids h'.0 c m ∙ f i (field_of ids c) l) (λ c z. (m : Declared ids c) → Laid here there plan (d c m) z)
            (λ c m y. laid_at (g c) (g' c) (d c y) (node_of here i ids c) (h.1 c m).1 (subst (Means there (g' c)) (f i (field_of ids c) l) (h'.1 c m).1) f)
            [] ids refl,
      )
  laid_at u u' (s_dense ids nullable nullable' g g' e d) i h h' f =
      let k = h.0.1 in
      let l = h.0.0 in
      let b = below_at_lem i (dense_node ids) l k in (
        record { here = k; there = h'.0.1 },
        end_after schema first n i l,
        fields_from i l ids b.0 b.1 (ap is_run k) (λ c m. found i false ids h'.0 c m ∙ f i (field_of ids c) l) (λ c z. (m : Declared ids c) → Laid here there plan (d c m) z)
            (λ c m y. laid_at (g c) (g' c) (d c y) (node_of here i ids c) (h.1 c m).1 (subst (Means there (g' c)) (f i (field_of ids c) l) (h'.1 c m).1) f)
            [] ids refl,
      )
  laid_at u u' (s_run_end a a' v v' d) i h h' f =
      let l = h.0.0 in
      let b = below_at_lem i (run_end_node a) l h.0.1 in
      let next : suc i < n = child_inside schema first n w i 0 l (omega (arith, b.0)) in
      let two = second_child formats schema first n i next b.1 in (
        record { here = h.0.1; there = h'.0.1 },
        b.2,
        sym (children_end schema first n i l) ∙ ap (child_at schema first n i) b.0 ∙ ap (end_of schema first n) two,
        laid_at v v' d (suc (suc i)) h.2 h'.2 f,
      )
  laid_at u u' (s_dictionary k k' p p' z z' d) i h h' f =
      let l = h.0.0 in
      let b = below_at_lem i (dictionary_node k) l h.0.1 in
      let c = plain_below p (suc i) h.1 in (
        record { here = h.0.1; there = h'.0.1 },
        plain_both p p' d (suc i) h.1 h'.1,
        one_end i l b.0 ∙ after_leaf formats schema first n (suc i) c.0 c.1,
      )

-- ---- where both trees have their children

module _ (formats schema : List ℕ) (first first' n : ℕ) (nodes : (i : ℕ) → i < n → NodeWidths formats schema first first' i) where
  ends_same : (f p i : ℕ) → i + f ≤ n → end_from schema first f p i ≡ end_from schema first' f p i
  unfolding end_from below
  ends_same zero p i l = refl
  ends_same (suc f) zero i l = refl
  ends_same (suc f) (suc p) i l =
      let g = nodes i (omega arith) in
      ap₂ (λ c d. end_from schema first f (p + (c + cond (eqb d 0) 0 1)) (suc i)) g.same_children g.same_dictionary ∙ ends_same f (p + below schema first' i) (suc i) (omega arith)

  end_same : (i : ℕ) → i ≤ n → end_of schema first n i ≡ end_of schema first' n i
  unfolding end_of
  end_same i l = ends_same (n - i) 1 i (omega arith)

  pub child_both : (i j : ℕ) → i < n → (child_node (tree_of formats schema first' n) i j ≡ child_node (tree_of formats schema first n) i j) × (child_node (tree_of formats schema first n) i j ≤ n)
  child_both i zero l = (refl, omega arith)
  child_both i (suc j) l =
      let p = child_both i j l in
      (ap (end_of schema first' n) p.0 ∙ sym (end_same (child_node (tree_of formats schema first n) i j) p.1), end_inside schema first n (child_node (tree_of formats schema first n) i j) p.1)

-- A TARGET'S TREE IS LAID AS THE COLUMN'S, where the plan finds the fields of unions
pub laid_target : (formats schema : List ℕ) (first n first' : ℕ) (plan : List ℕ) → typed formats schema first n ≡ true → ceilings formats schema first n ≡ true → Target formats schema first n first' n
    → ((i : ℕ) (b : Bool) (ids : List ℕ) → Is (tree_of formats schema first' n) i (union_kind b ids) → (c : ℕ) → Memᴰ c ids → child_of plan i c ≡ node_of (tree_of formats schema first' n) i ids c)
    → (d : Widths (type_of formats schema first n) (type_of formats schema first' n)) → Laid (tree_of formats schema first n) (tree_of formats schema first' n) plan d 0
laid_target formats schema first n first' plan t c g found d =
    laid_at formats schema first first' n plan t found (type_of formats schema first n) (type_of formats schema first' n) d 0 (means formats schema first n t c) (means formats schema first' n g.of_type g.low)
    (λ i j l. (child_both formats schema first first' n g.nodes i j l).0)
