-- Each node of a lent type tree is a node of its type. Assumes nothing.
use mathlib.Core.Path.{◌≡◌, refl, ap, sym, subst, ◌∙◌}
use mathlib.Core.Bool.{Bool, true, false}
use mathlib.Core.List.Memᴰ
use mathlib.Core.List.{List, [], ◌∷◌, Memᴰ}
use Prim.Native.Nat.{ℕ, zero, suc, ◌+◌, ◌≤◌, ◌<◌}
use native.Mathlib.Omega.{arith}
use lib.Dec.{ltb, eqb}
use borrow.Author.Tests.{eqb-true, eqb-false, ltb-true, ltb-false}
use Rattle.columnar.specs.Types.{width, Ty, t_plain, t_view, t_list_view, t_list, t_sparse, t_dense, t_run_end, t_dictionary}
use Rattle.schema.specs.Tree.{below, end_of, child_at, depth, whole, ceilings, typed}
use Rattle.schema.proofs.Trees.{child_inside, children_end}
use Rattle.schema.proofs.Depth.{child_depth}
use Rattle.schema.proofs.Known.{typed_whole, typed_shape, within_depth}
use Rattle.array_data.specs.Tables.{Tables}
use Rattle.array_data.proofs.type_tree.ByKind.{ty_as, type_by_lem}
use Rattle.array_data.specs.NodeKinds.{NodeKind, run_end_node, kind_at}
use Rattle.array_data.specs.Typed.{child_node, field_of, node_of, all_of, nodes}
use Rattle.array_data.specs.type_tree.Lent.{ty_of}
use Rattle.array_data.proofs.type_tree.Ids.{field_id}
use Rattle.array_data.proofs.type_tree.Shaped.{Shaped, of_plain_lem, of_view, of_list, of_lists_lem, of_sparse, of_dense, of_run_lem, of_dictionary, shaped}
use Rattle.array_data.proofs.type_tree.Lent.{tree, child_same, after_leaf, first_child, second_child, some_node, whole_end, root}

all_in : (f : ℕ → List ℕ) (ids : List ℕ) (c j : ℕ) → Memᴰ c ids → Memᴰ j (f c) → Memᴰ j (all_of f ids)
all_in f (d ∷ ds) c j (Memᴰ.head e) m = Memᴰ.append_left (all_of f ds) (subst (λ z. Memᴰ j (f z)) e m)
all_in f (d ∷ ds) c j (Memᴰ.tail q) m = Memᴰ.append_right (f d) (all_in f ds c j q m)
all_in f [] c j q m = elim q [ ]

module _ (formats schema : List ℕ) (first n : ℕ) where
  -- node j is in the subtree of child c of node i, one of the first k
  record Below (i k j : ℕ) : Type 0 where
    pub child : ℕ
    pub one_of : child < k
    pub from : child_at schema first n i child ≤ j
    pub to : j < end_of schema first n (child_at schema first n i child)

  locate : (i j k : ℕ) → i < j → j < child_at schema first n i k → Below i k j
  unfolding child_at
  locate i j zero a h = absurd (omega arith)
  locate i j (suc k) a h = go (ltb j (child_at schema first n i k)) refl (locate i j k a)
    where
      go : (b : Bool) → ltb j (child_at schema first n i k) ≡ b → (j < child_at schema first n i k → Below i k j) → Below i (suc k) j
      go true e ih =
          let r = ih (ltb-true j (child_at schema first n i k) e) in
          let l = r.one_of in
          record { child = r.child; one_of = omega arith; from = r.from; to = r.to }
      go false e ih = record { child = k; one_of = omega arith; from = ltb-false j (child_at schema first n i k) e; to = h }

  module _ (x : Tables) where
    abbrev In : ℕ → ℕ → ℕ → Type 0
    In f i j = Memᴰ j (nodes (tree formats schema first n) x (ty_of (tree formats schema first n) f i) i)

    -- the nodes behind node i in its subtree
    abbrev Kids : ℕ → ℕ → ℕ → Type 0
    Kids f i j = (c : ℕ) → c < below schema first i → child_at schema first n i c ≤ j → j < end_of schema first n (child_at schema first n i c) → In f (child_at schema first n i c) j

    self : (u : Ty) (i : ℕ) → Memᴰ i (nodes (tree formats schema first n) x u i)
    self (t_plain p) i = Memᴰ.head refl
    self t_view i = Memᴰ.head refl
    self (t_list_view w u) i = Memᴰ.head refl
    self (t_list w u) i = Memᴰ.head refl
    self (t_sparse ids nullable g) i = Memᴰ.head refl
    self (t_dense ids nullable g) i = Memᴰ.head refl
    self (t_run_end w u) i = Memᴰ.head refl
    self (t_dictionary k p) i = Memᴰ.head refl

    -- .. of a node of this kind
    abbrev InKind : ℕ → ℕ → ℕ → NodeKind → Type 0
    InKind f i j k = Memᴰ j (nodes (tree formats schema first n) x (ty_as (tree formats schema first n) (ty_of (tree formats schema first n) f) k i) i)

    -- a union's field with the id that it has
    field_node : (f i j k : ℕ) (ids : List ℕ) (c : ℕ) → field_of ids c ≡ k → In f (child_at schema first n i k) j → In f (node_of (tree formats schema first n) i ids c) j
    field_node f i j k ids c e m =
        subst (λ a. In f a j) (child_same formats schema first n i k ∙ ap (child_node (tree formats schema first n) i) (sym e)) m

    module _ (w : whole schema first n ≡ true) where
      next_in : (i : ℕ) → i < n → 0 < below schema first i → suc i < n
      next_in i l h = subst (λ k. k < n) (first_child formats schema first n i) (child_inside schema first n w i 0 l h)

      -- the first child, where nothing stands below it
      only_node : (i j c : ℕ) → i < n → 0 < below schema first i → below schema first (suc i) ≡ 0 → c ≡ 0
          → child_at schema first n i c ≤ j → j < end_of schema first n (child_at schema first n i c) → j ≡ suc i
      only_node i j c l h z e a b =
          let at : child_at schema first n i c ≡ suc i = ap (child_at schema first n i) e ∙ first_child formats schema first n i in
          let to : end_of schema first n (child_at schema first n i c) ≡ suc (suc i) = ap (end_of schema first n) at ∙ after_leaf formats schema first n (suc i) (next_in i l h) z in
          omega arith

      run_in_lem : (f i j c : ℕ) (v : ℕ) (b : Bool) → eqb c 0 ≡ b → i < n → below schema first i ≡ 2 → below schema first (suc i) ≡ 0 → c < 2
          → child_at schema first n i c ≤ j → j < end_of schema first n (child_at schema first n i c) → In f (child_at schema first n i c) j → InKind f i j (run_end_node v)
      run_in_lem f i j c v true e l z z1 h from to m = Memᴰ.tail (Memᴰ.head (only_node i j c l (omega arith) z1 (eqb-true c 0 e) from to))
      run_in_lem f i j c v false e l z z1 h from to m =
          let d = eqb-false c 0 e in
          let one : c ≡ 1 = omega arith in
          Memᴰ.tail
          (Memᴰ.tail (subst (λ k. In f k j) (ap (child_at schema first n i) one ∙ second_child formats schema first n i (next_in i l (omega arith)) z1) m))

      covered_by : (f i j : ℕ) → i < n → Shaped formats schema first i → Below i (below schema first i) j → Kids f i j → InKind f i j (kind_at formats schema first i)
      covered_by f i j l (of_plain_lem p e z d) r kid = let h = r.one_of in absurd (omega arith)
      covered_by f i j l (of_view e z) r kid = let h = r.one_of in absurd (omega arith)
      covered_by f i j l (of_list v e z d) r kid =
          let h = r.one_of in
          let zero-th : r.child ≡ 0 = omega arith in
          let at : child_at schema first n i r.child ≡ suc i = ap (child_at schema first n i) zero-th ∙ first_child formats schema first n i in
          subst (InKind f i j) (sym e) (Memᴰ.tail (subst (λ k. In f k j) at (kid r.child h r.from r.to)))
      covered_by f i j l (of_lists_lem v e z d) r kid =
          let h = r.one_of in
          let zero-th : r.child ≡ 0 = omega arith in
          let at : child_at schema first n i r.child ≡ suc i = ap (child_at schema first n i) zero-th ∙ first_child formats schema first n i in
          subst (InKind f i j) (sym e) (Memᴰ.tail (subst (λ k. In f k j) at (kid r.child h r.from r.to)))
      covered_by f i j l (of_sparse ids e z d o) r kid =
          let h = r.one_of in
          let q = field_id ids d r.child (omega arith) in
          let m = field_node f i j r.child ids q.id q.field (kid r.child h r.from r.to) in
          subst (InKind f i j) (sym e)
          (Memᴰ.tail (all_in (λ c. nodes (tree formats schema first n) x (ty_of (tree formats schema first n) f (node_of (tree formats schema first n) i ids c)) (node_of (tree formats schema first n) i ids c)) ids q.id j q.declared m))
      covered_by f i j l (of_dense ids e z d o) r kid =
          let h = r.one_of in
          let q = field_id ids d r.child (omega arith) in
          let m = field_node f i j r.child ids q.id q.field (kid r.child h r.from r.to) in
          subst (InKind f i j) (sym e)
          (Memᴰ.tail (all_in (λ c. nodes (tree formats schema first n) x (ty_of (tree formats schema first n) f (node_of (tree formats schema first n) i ids c)) (node_of (tree formats schema first n) i ids c)) ids q.id j q.declared m))
      covered_by f i j l (of_run_lem m e z e1 z1 d) r kid =
          let h = r.one_of in
          subst (InKind f i j) (sym e)
          (run_in_lem f i j r.child (width m) (eqb r.child 0) refl l z z1 (omega arith) r.from r.to (kid r.child h r.from r.to))
      covered_by f i j l (of_dictionary m p e z e1 z1 g d) r kid =
          let h = r.one_of in
          subst (InKind f i j) (sym e) (Memᴰ.tail (Memᴰ.head (only_node i j r.child l (omega arith) z1 (omega arith) r.from r.to)))

    module _ (t : typed formats schema first n ≡ true) (c : ceilings formats schema first n ≡ true) where
      covered_at : (f i j : ℕ) → i < n → 9 ≤ depth schema first n i + f → i ≤ j → j < end_of schema first n i → In f i j
      covered_at zero i j l h a b = absurd (omega (arith, within_depth formats schema first n c i l))
      covered_at (suc f) i j l h a b =
          let w = typed_whole formats schema first n t in
          go (eqb j i) refl
          (λ k q from to. covered_at f (child_at schema first n i k) j (child_inside schema first n w i k l q) (omega (arith, child_depth schema first n w i k l q)) from to)
        where
          go : (y : Bool) → eqb j i ≡ y → Kids f i j → In (suc f) i j
          go true e kid = subst (λ k. Memᴰ k (nodes (tree formats schema first n) x (ty_of (tree formats schema first n) (suc f) i) i)) (sym (eqb-true j i e)) (self (ty_of (tree formats schema first n) (suc f) i) i)
          go false e kid =
              let d = eqb-false j i e in
              let last = children_end schema first n i l in
              subst (λ u. Memᴰ j (nodes (tree formats schema first n) x u i)) (sym (type_by_lem (tree formats schema first n) f i))
              (covered_by (typed_whole formats schema first n t) f i j l (shaped formats schema first i (typed_shape formats schema first n t i l)) (locate i j (below schema first i) (omega arith) (omega arith)) kid)

      -- EACH NODE IS ONE OF THE TYPE'S
      pub covered : (j : ℕ) → j < n → Memᴰ j (nodes (tree formats schema first n) x (ty_of (tree formats schema first n) 8 0) 0)
      covered j l =
          let w = typed_whole formats schema first n t in
          covered_at 8 0 j (some_node formats schema first n w) (root formats schema first n) (omega arith) (omega (arith, whole_end formats schema first n w))
