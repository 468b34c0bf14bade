-- Two lent type trees that pass as the same stand for the same type. Assumes nothing.
use mathlib.Core.Path.{◌≡◌, refl, ap, sym, subst, ◌∙◌}
use mathlib.Core.Bool.{Bool, true, false, not, cond, ◌&&◌, ◌||◌, false≢true}
use mathlib.Core.Option.{Option, none, some}
use mathlib.Core.List.{List, [], ◌∷◌, ◌++◌, Memᴰ}
use Prim.Native.Nat.{ℕ, zero, suc, ◌+◌, ◌-◌, ◌≤◌, ◌<◌}
use native.Mathlib.Omega.{arith}
use lib.Dec.{eqb}
use borrow.Author.Tests.{eqb-true, ne_eqb}
use Rattle.columnar.specs.Types.{Plain, fixed, string}
use Rattle.schema.specs.formats.Code.{is_fixed, is_string, is_view, is_list_view, is_list, is_union, is_run_end, width_of}
use Rattle.schema.specs.union_ids.Ids.{same_ids}
use Rattle.schema.specs.Tree.{flag, children, dictionary, below, end_from, end_of, child_at, depth, whole, is_values, code_of, ids_of, ceilings, typed, same_flag, same_formats, same_node, same_type}
use Rattle.schema.proofs.Trees.{child_inside, child_is, end_up, end_after, end_inside}
use Rattle.schema.proofs.Depth.{nested, child_before, child_depth}
use Rattle.schema.proofs.Known.{typed_whole, typed_shape, within_depth, same_size, same_node_lem}
use Rattle.array_data.specs.Tables.{Tables}
use Rattle.array_data.proofs.type_tree.ByKind.{plain_as, ty_as, type_by_lem}
use Rattle.array_data.specs.NodeKinds.{NodeKind, fixed_node, string_node, view_node, list_view_node, list_node, sparse_node, dense_node, run_end_node, dictionary_node, kind_of, kind_at}
use Rattle.array_data.specs.Typed.{Tree, child_node, field_of, all_of, MeansPlain, Means, nodes, nullable_in}
use Rattle.array_data.specs.type_tree.Lent.{tree_of, ty_of, type_of}
use Rattle.array_data.proofs.type_tree.Ids.{both, field_in_lem}
use Rattle.array_data.proofs.type_tree.Shaped.{plain_kind, Shaped, of_plain_lem, of_view, of_list, of_lists_lem, of_sparse, of_dense, of_run_lem, of_dictionary, shaped, at_run}
use Rattle.array_data.proofs.type_tree.Lent.{child_same, first_child, second_child, some_node, root}
use Rattle.array_data.proofs.type_tree.Covered.{covered}
use Rattle.columnar.specs.Test.{same}
use Rattle.array_data.proofs.Names.{ids_or, union_kind}

-- ---- formats

same_list_lem : (a b : List ℕ) → same a b ≡ true → a ≡ b
same_list_lem [] [] h = refl
same_list_lem [] (y ∷ ys) h = absurd (false≢true h)
same_list_lem (x ∷ xs) [] h = absurd (false≢true h)
same_list_lem (x ∷ xs) (y ∷ ys) h =
    let p = both (same xs ys) (eqb x y) h in
    ap (λ z. z ∷ xs) (eqb-true x y p.1) ∙ ap (λ zs. y ∷ zs) (same_list_lem xs ys p.0)

same_ids_lem : (o o' : Option (List ℕ)) → same_ids o o' ≡ true → o ≡ o'
same_ids_lem (some a) (some b) h = ap some (same_list_lem a b h)
same_ids_lem (some a) none h = absurd (false≢true h)
same_ids_lem none o h = absurd (false≢true h)

-- two chains of tests that differ in two answers
chain : {A : Type 0} (a b c d e u r : Bool) (p q s v o x x' y y' z : A) → (u ≡ true → x ≡ x') → (r ≡ true → y ≡ y')
    → cond a p (cond b q (cond c s (cond d v (cond e o (cond u x (cond r y z)))))) ≡ cond a p (cond b q (cond c s (cond d v (cond e o (cond u x' (cond r y' z))))))
chain true b c d e u r p q s v o x x' y y' z f g = refl
chain false true c d e u r p q s v o x x' y y' z f g = refl
chain false false true d e u r p q s v o x x' y y' z f g = refl
chain false false false true e u r p q s v o x x' y y' z f g = refl
chain false false false false true u r p q s v o x x' y y' z f g = refl
chain false false false false false true r p q s v o x x' y y' z f g = f refl
chain false false false false false false true p q s v o x x' y y' z f g = g refl
chain false false false false false false false p q s v o x x' y y' z f g = refl

is_run : NodeKind → Bool
is_run (fixed_node m) = false
is_run (string_node w) = false
is_run view_node = false
is_run (list_view_node w) = false
is_run (list_node w) = false
is_run (sparse_node ids) = false
is_run (dense_node ids) = false
is_run (run_end_node w) = true
is_run (dictionary_node m) = false

implied : (a b : Bool) → not a || b ≡ true → a ≡ true → b ≡ true
implied true b h e = h
implied false b h e = absurd (false≢true e)

module _ (formats schema : List ℕ) (first : ℕ) where
  run_below : (i : ℕ) → is_run_end (code_of formats schema first i) ≡ true → Shaped formats schema first i → 0 < below schema first i
  unfolding is_run
  run_below i h (of_plain_lem (fixed m) e z d) = absurd (false≢true (ap is_run (sym e ∙ at_run formats schema first i h)))
  run_below i h (of_plain_lem (string v) e z d) = absurd (false≢true (ap is_run (sym e ∙ at_run formats schema first i h)))
  run_below i h (of_view e z) = absurd (false≢true (ap is_run (sym e ∙ at_run formats schema first i h)))
  run_below i h (of_list v e z d) = omega arith
  run_below i h (of_lists_lem v e z d) = omega arith
  run_below i h (of_sparse ids e z d o) = absurd (false≢true (ap is_run (sym e ∙ at_run formats schema first i h)))
  run_below i h (of_dense ids e z d o) = absurd (false≢true (ap is_run (sym e ∙ at_run formats schema first i h)))
  run_below i h (of_run_lem m e z e1 z1 d) = omega arith
  run_below i h (of_dictionary m p e z e1 z1 g d) = omega arith

all_same_lem : (f g : ℕ → List ℕ) (ids : List ℕ) → ((c : ℕ) → Memᴰ c ids → f c ≡ g c) → all_of f ids ≡ all_of g ids
all_same_lem f g [] h = refl
all_same_lem f g (c ∷ cs) h =
    ap (λ r. r ++ all_of f cs) (h c (Memᴰ.head refl)) ∙ ap (λ r. g c ++ r) (all_same_lem f g cs (λ d q. h d (Memᴰ.tail q)))

third : (a b c : Bool) → a || b || c ≡ true → a ≡ false → b ≡ false → c ≡ true
third true b c h x y = absurd (false≢true (sym x))
third false true c h x y = absurd (false≢true (sym y))
third false false c h x y = h

-- ---- a child of a node without a dictionary is no dictionary's values

module _ (schema : List ℕ) (first n : ℕ) (w : whole schema first n ≡ true) where
  keys_below_lem : (m : ℕ) → dictionary schema first m ≡ 1 → 0 < below schema first m
  unfolding below
  keys_below_lem m e =
      let one : ◌≡◌ {A = ℕ} (cond (eqb (dictionary schema first m) 0) 0 1) 1 = ap (λ d. cond (eqb d 0) 0 1) e in
      omega arith

  values_after : (e k : ℕ) → k < n → end_of schema first n k ≡ e → is_values schema first e ≡ false
  unfolding is_values child_at
  values_after zero k l h = refl
  values_after (suc m) k l h =
      let up = end_after schema first n k l in
      let top = end_inside schema first n k (omega arith) in
      ne_eqb (dictionary schema first m) 1
      (λ d. let c : suc m < end_of schema first n m = child_before schema first n w m 0 (omega arith) (keys_below_lem m d) in omega (arith, nested schema first n m k (omega arith) (omega arith)))

  values_no : (i j : ℕ) → i < n → j < below schema first i → eqb (dictionary schema first i) 0 ≡ true → is_values schema first (child_at schema first n i j) ≡ false
  unfolding is_values child_at
  values_no i zero l h s = let z = eqb-true (dictionary schema first i) 0 s in ne_eqb (dictionary schema first i) 1 (λ e. omega arith)
  values_no i (suc j) l h s = values_after (end_of schema first n (child_at schema first n i j)) (child_at schema first n i j) (child_inside schema first n w i j l (omega arith)) refl

module _ (schema : List ℕ) (first n : ℕ) where
  child_up : (i j : ℕ) → i < n → i < child_at schema first n i j
  child_up i j l = omega (arith, child_is schema first n i l j, end_up schema first (n - suc i) j (suc i))

-- ---- nodes that agree

module _ (formats schema : List ℕ) (first first' n : ℕ) (agree : (i : ℕ) → i < n → same_node formats schema first first' i ≡ true) where
  format_parts : (i : ℕ) → same_formats formats schema first first' i ≡ true
      → (code_of formats schema first i ≡ code_of formats schema first' i)
      × (is_union (code_of formats schema first i) ≡ true → ids_of formats schema first i ≡ ids_of formats schema first' i)
  unfolding same_formats code_of ids_of
  format_parts i h =
      let c = code_of formats schema first i in
      let c' = code_of formats schema first' i in
      let o = ids_of formats schema first i in
      let o' = ids_of formats schema first' i in
      let p = both (not (eqb c 0) && eqb c c') (not (is_union c) || same_ids o o') h in
      let q = both (not (eqb c 0)) (eqb c c') p.0 in
      (eqb-true c c' q.1, λ u. same_ids_lem o o' (implied (is_union c) (same_ids o o') p.1 u))

  record Agreed (i : ℕ) : Type 0 where
    pub code : code_of formats schema first i ≡ code_of formats schema first' i
    pub ids : is_union (code_of formats schema first i) ≡ true → ids_of formats schema first i ≡ ids_of formats schema first' i
    pub kids : children schema first i ≡ children schema first' i
    pub dict : dictionary schema first i ≡ dictionary schema first' i
    pub flags : same_flag schema first first' i ≡ true

  agreed : (i : ℕ) → i < n → Agreed i
  unfolding same_node
  agreed i l =
      let a = same_formats formats schema first first' i in
      let b = eqb (children schema first i) (children schema first' i) in
      let d = eqb (dictionary schema first i) (dictionary schema first' i) in
      let p = both (a && b && d) (same_flag schema first first' i) (agree i l) in
      let q = both (a && b) d p.0 in
      let r = both a b q.0 in
      let f = format_parts i r.0 in
      record {
        code = f.0;
        ids = f.1;
        kids = eqb-true (children schema first i) (children schema first' i) r.1;
        dict = eqb-true (dictionary schema first i) (dictionary schema first' i) q.1;
        flags = p.1;
      }

  below_same : (i : ℕ) → i < n → below schema first i ≡ below schema first' i
  unfolding below
  below_same i l =
      let g = agreed i l in
      ap (λ d. children schema first i + cond (eqb d 0) 0 1) g.dict ∙ ap (λ c. c + cond (eqb (dictionary schema first' i) 0) 0 1) g.kids

  end_from_same : (f p i : ℕ) → i + f ≤ n → end_from schema first f p i ≡ end_from schema first' f p i
  unfolding end_from
  end_from_same zero p i l = refl
  end_from_same (suc f) zero i l = refl
  end_from_same (suc f) (suc p) i l =
      ap (λ b. end_from schema first f (p + b) (suc i)) (below_same i (omega arith)) ∙ end_from_same f (p + below schema first' i) (suc i) (omega arith)

  pub end_same : (i : ℕ) → i ≤ n → end_of schema first n i ≡ end_of schema first' n i
  unfolding end_of
  end_same i l = end_from_same (n - i) 1 i (omega arith)

  module _ (w : whole schema first n ≡ true) where
    pub place_same : (i j : ℕ) → i < n → j < below schema first i → child_at schema first n i j ≡ child_at schema first' n i j
    unfolding child_at
    place_same i zero l h = refl
    place_same i (suc j) l h =
        let k = child_inside schema first n w i j l (omega arith) in
        end_same (child_at schema first n i j) (omega arith) ∙ ap (end_of schema first' n) (place_same i j l (omega arith))

    pub kind_same : (i : ℕ) → i < n → Shaped formats schema first i → kind_at formats schema first i ≡ kind_at formats schema first' i
    unfolding kind_at
    kind_same i l s =
        let g = agreed i l in
        let c = code_of formats schema first i in
        let o = ids_of formats schema first i in
        let o' = ids_of formats schema first' i in
        let b = eqb (dictionary schema first i) 0 in
        let next = code_of formats schema first (suc i) in
        let next' = code_of formats schema first' (suc i) in
        let step : kind_of c b o next ≡ kind_of c b o' next' =
        chain (is_fixed c) (is_string c) (is_view c) (is_list_view c) (is_list c) (is_union c) (is_run_end c) _ _ _ _ _ _ _ _ _ _
        (λ u. ap (λ o. union_kind (eqb c 21) (ids_or o)) (g.ids u))
        (λ r. ap (λ k. run_end_node (width_of k)) (agreed (suc i) (subst (λ k. k < n) (first_child formats schema first n i) (child_inside schema first n w i 0 l (run_below formats schema first i r s)))).code) in
        step ∙ ap (λ k. kind_of k b o' next') g.code ∙ ap (λ d. kind_of (code_of formats schema first' i) (eqb d 0) o' next') g.dict

    null_same : (i j : ℕ) → i < n → j < below schema first i → eqb (dictionary schema first i) 0 ≡ true
        → Rattle.schema.specs.Tree.nullable schema first (child_at schema first n i j) ≡ Rattle.schema.specs.Tree.nullable schema first' (child_at schema first n i j)
    unfolding same_flag
    null_same i j l h s =
        let k = child_at schema first n i j in
        let g = agreed k (child_inside schema first n w i j l h) in
        let up : i < k = child_up schema first n i j l in
        let e = third (eqb k 0) (is_values schema first k) (eqb (flag schema first k) (flag schema first' k)) g.flags (ne_eqb k 0 (λ z. omega arith)) (values_no schema first n w i j l h s) in
        ap (λ z. eqb z 1) (eqb-true (flag schema first k) (flag schema first' k) e)

    abbrev here : Tree
    here = tree_of formats schema first n

    abbrev there : Tree
    there = tree_of formats schema first' n

    -- the type that a node of the first tree stands for, at the second tree's node
    abbrev MeansThere : ℕ → ℕ → Type 0
    MeansThere f i = Means there (ty_of here f i) i

    plain_there : (p : Plain) (i : ℕ) → i < n → kind_at formats schema first' i ≡ plain_kind p → MeansPlain there p i
    plain_there (fixed m) i l e = (l, e)
    plain_there (string v) i l e = (l, e)

    plain_as_lem : (p : Plain) → plain_as (plain_kind p) ≡ p
    plain_as_lem (fixed m) = refl
    plain_as_lem (string v) = refl

    next_in : (i : ℕ) → i < n → 0 < below schema first i → suc i < n
    next_in i l h = subst (λ k. k < n) (first_child formats schema first n i) (child_inside schema first n w i 0 l h)

    field_there : (f i : ℕ) → i < n → eqb (dictionary schema first i) 0 ≡ true → (j : ℕ) → j < below schema first i → MeansThere f (child_at schema first n i j)
        → (nullable_in here (child_node here i j) ≡ nullable_in there (child_node there i j)) × Means there (ty_of here f (child_node here i j)) (child_node there i j)
    field_there f i l s j h m =
        let a = child_same formats schema first n i j in
        let b = place_same i j l h ∙ child_same formats schema first' n i j in (
          sym (ap (nullable_in here) a) ∙ null_same i j l h s ∙ ap (nullable_in there) b,
          subst (λ z. Means there (ty_of here f z) (child_node there i j)) a (subst (λ z. Means there (ty_of here f (child_at schema first n i j)) z) b m),
        )

    there_by : (f i : ℕ) → i < n → Shaped formats schema first i → kind_at formats schema first i ≡ kind_at formats schema first' i
        → (0 < below schema first i → kind_at formats schema first (suc i) ≡ kind_at formats schema first' (suc i))
        → ((j : ℕ) → j < below schema first i → MeansThere f (child_at schema first n i j)) → Means there (ty_as here (ty_of here f) (kind_at formats schema first i) i) i
    there_by f i l (of_plain_lem (fixed m) e z d) k k1 kid = subst (λ k. Means there (ty_as here (ty_of here f) k i) i) (sym e) (l, sym k ∙ e)
    there_by f i l (of_plain_lem (string v) e z d) k k1 kid = subst (λ k. Means there (ty_as here (ty_of here f) k i) i) (sym e) (l, sym k ∙ e)
    there_by f i l (of_view e z) k k1 kid = subst (λ k. Means there (ty_as here (ty_of here f) k i) i) (sym e) (l, sym k ∙ e)
    there_by f i l (of_list v e z d) k k1 kid =
        subst (λ k. Means there (ty_as here (ty_of here f) k i) i) (sym e)
        ((l, sym k ∙ e), subst (MeansThere f) (first_child formats schema first n i) (kid 0 (omega arith)))
    there_by f i l (of_lists_lem v e z d) k k1 kid =
        subst (λ k. Means there (ty_as here (ty_of here f) k i) i) (sym e)
        ((l, sym k ∙ e), subst (MeansThere f) (first_child formats schema first n i) (kid 0 (omega arith)))
    there_by f i l (of_sparse ids e z d o) k k1 kid =
        subst (λ k. Means there (ty_as here (ty_of here f) k i) i) (sym e)
        ((l, sym k ∙ e), λ c q. let h : field_of ids c < below schema first i = omega (arith, field_in_lem ids c q) in field_there f i l o (field_of ids c) h (kid (field_of ids c) h))
    there_by f i l (of_dense ids e z d o) k k1 kid =
        subst (λ k. Means there (ty_as here (ty_of here f) k i) i) (sym e)
        ((l, sym k ∙ e), λ c q. let h : field_of ids c < below schema first i = omega (arith, field_in_lem ids c q) in field_there f i l o (field_of ids c) h (kid (field_of ids c) h))
    there_by f i l (of_run_lem m e z e1 z1 d) k k1 kid =
        let next = next_in i l (omega arith) in
        subst (λ k. Means there (ty_as here (ty_of here f) k i) i) (sym e)
        ((l, sym k ∙ e), record { number = m; is_ends_lem = (next, sym (k1 (omega arith)) ∙ e1); wide = refl }, subst (MeansThere f) (second_child formats schema first n i next z1) (kid 1 (omega arith)))
    there_by f i l (of_dictionary m p e z e1 z1 g d) k k1 kid =
        let next = next_in i l (omega arith) in
        subst (λ k. Means there (ty_as here (ty_of here f) k i) i) (sym e)
        ((l, sym k ∙ e), subst (λ q. MeansPlain there q (suc i)) (sym (ap plain_as e1 ∙ plain_as_lem p)) (plain_there p (suc i) next (sym (k1 (omega arith)) ∙ e1)))

    module _ (x : Tables) where
      -- the type's nodes are the same in both trees
      abbrev SameNodes : ℕ → ℕ → Type 0
      SameNodes f i = nodes here x (ty_of here f i) i ≡ nodes there x (ty_of here f i) i

      abbrev SameOf : ℕ → ℕ → NodeKind → Type 0
      SameOf f i k = nodes here x (ty_as here (ty_of here f) k i) i ≡ nodes there x (ty_as here (ty_of here f) k i) i

      field_nodes : (f i : ℕ) → i < n → (j : ℕ) → j < below schema first i → SameNodes f (child_at schema first n i j)
          → nodes here x (ty_of here f (child_node here i j)) (child_node here i j) ≡ nodes there x (ty_of here f (child_node here i j)) (child_node there i j)
      field_nodes f i l j h m =
          let a = child_same formats schema first n i j in
          let b = place_same i j l h ∙ child_same formats schema first' n i j in
          subst (λ z. nodes here x (ty_of here f z) z ≡ nodes there x (ty_of here f z) (child_node there i j)) a
          (m ∙ ap (λ z. nodes there x (ty_of here f (child_at schema first n i j)) z) b)

      nodes_by : (f i : ℕ) → i < n → Shaped formats schema first i → ((j : ℕ) → j < below schema first i → SameNodes f (child_at schema first n i j)) → SameOf f i (kind_at formats schema first i)
      nodes_by f i l (of_plain_lem (fixed m) e z d) kid = subst (SameOf f i) (sym e) refl
      nodes_by f i l (of_plain_lem (string v) e z d) kid = subst (SameOf f i) (sym e) refl
      nodes_by f i l (of_view e z) kid = subst (SameOf f i) (sym e) refl
      nodes_by f i l (of_list v e z d) kid = subst (SameOf f i) (sym e) (ap (λ r. i ∷ r) (subst (SameNodes f) (first_child formats schema first n i) (kid 0 (omega arith))))
      nodes_by f i l (of_lists_lem v e z d) kid = subst (SameOf f i) (sym e) (ap (λ r. i ∷ r) (subst (SameNodes f) (first_child formats schema first n i) (kid 0 (omega arith))))
      nodes_by f i l (of_sparse ids e z d o) kid =
          subst (SameOf f i) (sym e)
          (ap (λ r. i ∷ r) (all_same_lem _ _ ids (λ c q. let h : field_of ids c < below schema first i = omega (arith, field_in_lem ids c q) in field_nodes f i l (field_of ids c) h (kid (field_of ids c) h))))
      nodes_by f i l (of_dense ids e z d o) kid =
          subst (SameOf f i) (sym e)
          (ap (λ r. i ∷ r) (all_same_lem _ _ ids (λ c q. let h : field_of ids c < below schema first i = omega (arith, field_in_lem ids c q) in field_nodes f i l (field_of ids c) h (kid (field_of ids c) h))))
      nodes_by f i l (of_run_lem m e z e1 z1 d) kid =
          let next = next_in i l (omega arith) in
          subst (SameOf f i) (sym e) (ap (λ r. i ∷ suc i ∷ r) (subst (SameNodes f) (second_child formats schema first n i next z1) (kid 1 (omega arith))))
      nodes_by f i l (of_dictionary m p e z e1 z1 g d) kid = subst (SameOf f i) (sym e) refl

  module _ (t : typed formats schema first n ≡ true) (c : ceilings formats schema first n ≡ true) where
    shaped_at : (i : ℕ) → i < n → Shaped formats schema first i
    shaped_at i l = shaped formats schema first i (typed_shape formats schema first n t i l)

    there_at : (w : whole schema first n ≡ true) (f i : ℕ) → i < n → 9 ≤ depth schema first n i + f → MeansThere w f i
    there_at w zero i l h = absurd (omega (arith, within_depth formats schema first n c i l))
    there_at w (suc f) i l h =
        subst (λ u. Means (there w) u i) (sym (type_by_lem (here w) f i))
        (there_by w f i l (shaped_at i l) (kind_same w i l (shaped_at i l))
        (λ b. kind_same w (suc i) (next_in w i l b) (shaped_at (suc i) (next_in w i l b)))
        (λ j b. there_at w f (child_at schema first n i j) (child_inside schema first n w i j l b) (omega (arith, child_depth schema first n w i j l b))))

    there_root : Means (tree_of formats schema first' n) (type_of formats schema first n) 0
    there_root =
        let w = typed_whole formats schema first n t in
        there_at w 8 0 (some_node formats schema first n w) (root formats schema first n)

    nodes_at : (w : whole schema first n ≡ true) (x : Tables) (f i : ℕ) → i < n → 9 ≤ depth schema first n i + f → SameNodes w x f i
    nodes_at w x zero i l h = absurd (omega (arith, within_depth formats schema first n c i l))
    nodes_at w x (suc f) i l h =
        subst (λ u. nodes (here w) x u i ≡ nodes (there w) x u i) (sym (type_by_lem (here w) f i))
        (nodes_by w x f i l (shaped_at i l)
        (λ j b. nodes_at w x f (child_at schema first n i j) (child_inside schema first n w i j l b) (omega (arith, child_depth schema first n w i j l b))))

    nodes_root : (x : Tables) → nodes (tree_of formats schema first n) x (type_of formats schema first n) 0 ≡ nodes (tree_of formats schema first' n) x (type_of formats schema first n) 0
    nodes_root x =
        let w = typed_whole formats schema first n t in
        nodes_at w x 8 0 (some_node formats schema first n w) (root formats schema first n)

module _ (formats schema : List ℕ) (first n first' n' : ℕ) where
  -- THE SECOND TREE STANDS FOR THE FIRST ONE'S TYPE
  pub same_means : typed formats schema first n ≡ true → ceilings formats schema first n ≡ true → same_type formats schema first n first' n' ≡ true
      → Means (tree_of formats schema first' n') (type_of formats schema first n) 0
  same_means t c s =
      subst (λ m. Means (tree_of formats schema first' m) (type_of formats schema first n) 0) (same_size formats schema first n first' n' s)
      (there_root formats schema first first' n (same_node_lem formats schema first n first' n' s) t c)

  -- .. AND EACH OF ITS NODES IS ONE OF THAT TYPE'S
  pub same_covered : typed formats schema first n ≡ true → ceilings formats schema first n ≡ true → same_type formats schema first n first' n' ≡ true
      → (x : Tables) (j : ℕ) → j < n' → Memᴰ j (nodes (tree_of formats schema first' n') x (type_of formats schema first n) 0)
  same_covered t c s x j l =
      let e = same_size formats schema first n first' n' s in
      subst (λ m. Memᴰ j (nodes (tree_of formats schema first' m) x (type_of formats schema first n) 0)) e
      (subst (Memᴰ j) (nodes_root formats schema first first' n (same_node_lem formats schema first n first' n' s) t c x) (covered formats schema first n x t c j (omega arith)))
