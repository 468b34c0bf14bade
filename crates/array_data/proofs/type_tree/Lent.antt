-- A lent type tree that passes the tests of crate `schema` stands for a type that 01 admits. Assumes nothing.
use mathlib.Core.Path.{◌≡◌, refl, ap, sym, subst, ◌∙◌}
use mathlib.Core.Bool.{true, ◌&&◌}
use mathlib.Core.List.{List}
use Prim.Native.Nat.{ℕ, zero, suc, ◌+◌, ◌≤◌, ◌<◌}
use native.Mathlib.Omega.{arith}
use lib.Dec.{leb, eqb}
use borrow.Author.Tests.{leb-true, eqb-true}
use Rattle.columnar.specs.Types.{Plain, fixed, string}
use Rattle.columnar.specs.Formed.{Formed, FormedPlain}
use Rattle.schema.specs.Tree.{below, end_of, child_at, depth, whole, ceilings, typed}
use Rattle.schema.proofs.Due.{due_from, whole_is}
use Rattle.schema.proofs.Trees.{child_inside, children_end}
use Rattle.schema.proofs.Depth.{child_depth}
use Rattle.schema.proofs.Known.{typed_whole, typed_shape, within_depth}
use Rattle.array_data.proofs.type_tree.ByKind.{plain_as, ty_as, type_by_lem}
use Rattle.array_data.specs.NodeKinds.{kind_at}
use Rattle.array_data.specs.Typed.{Tree, child_node, field_of, MeansPlain, Means}
use Rattle.array_data.specs.type_tree.Lent.{tree_of, ty_of, type_of}
use Rattle.array_data.proofs.type_tree.Ids.{both, field_in_lem}
use Rattle.array_data.proofs.type_tree.Shaped.{plain_kind, Shaped, of_plain_lem, of_view, of_list, of_lists_lem, of_sparse, of_dense, of_run_lem, of_dictionary, shaped}

-- ---- a tree that passes

module _ (formats schema : List ℕ) (first n : ℕ) where
  abbrev pub tree : Tree
  tree = tree_of formats schema first n

  pub child_same : (i j : ℕ) → child_at schema first n i j ≡ child_node tree i j
  unfolding child_at
  child_same i zero = refl
  child_same i (suc j) = ap (end_of schema first n) (child_same i j)

  -- the node behind one with nothing below it
  pub after_leaf : (i : ℕ) → i < n → below schema first i ≡ 0 → end_of schema first n i ≡ suc i
  unfolding child_at
  after_leaf i l z = sym (children_end schema first n i l) ∙ ap (child_at schema first n i) z

  pub first_child : (i : ℕ) → child_at schema first n i 0 ≡ suc i
  unfolding child_at
  first_child i = refl

  pub second_child : (i : ℕ) → suc i < n → below schema first (suc i) ≡ 0 → child_at schema first n i 1 ≡ suc (suc i)
  unfolding child_at
  second_child i l z = after_leaf (suc i) l z

  plain_means : (p : Plain) (i : ℕ) → i < n → kind_at formats schema first i ≡ plain_kind p → MeansPlain tree p i
  plain_means (fixed m) i l e = (l, e)
  plain_means (string w) i l e = (l, e)

  plain_as_lem : (p : Plain) → plain_as (plain_kind p) ≡ p
  plain_as_lem (fixed m) = refl
  plain_as_lem (string w) = refl

  abbrev MeansFrom : ℕ → ℕ → Type 0
  MeansFrom f i = Means tree (ty_of tree f i) i

  means_by : (f i : ℕ) → whole schema first n ≡ true → i < n → Shaped formats schema first i
      → ((j : ℕ) → j < below schema first i → MeansFrom f (child_at schema first n i j)) → Means tree (ty_as tree (ty_of tree f) (kind_at formats schema first i) i) i
  means_by f i w l (of_plain_lem (fixed m) e z d) kid = subst (λ k. Means tree (ty_as tree (ty_of tree f) k i) i) (sym e) (l, e)
  means_by f i w l (of_plain_lem (string v) e z d) kid = subst (λ k. Means tree (ty_as tree (ty_of tree f) k i) i) (sym e) (l, e)
  means_by f i w l (of_view e z) kid = subst (λ k. Means tree (ty_as tree (ty_of tree f) k i) i) (sym e) (l, e)
  means_by f i w l (of_list v e z d) kid =
      subst (λ k. Means tree (ty_as tree (ty_of tree f) k i) i) (sym e) ((l, e), subst (MeansFrom f) (first_child i) (kid 0 (omega arith)))
  means_by f i w l (of_lists_lem v e z d) kid =
      subst (λ k. Means tree (ty_as tree (ty_of tree f) k i) i) (sym e) ((l, e), subst (MeansFrom f) (first_child i) (kid 0 (omega arith)))
  means_by f i w l (of_sparse ids e z d o) kid =
      subst (λ k. Means tree (ty_as tree (ty_of tree f) k i) i) (sym e)
      ((l, e), λ c q. (refl, subst (MeansFrom f) (child_same i (field_of ids c)) (kid (field_of ids c) (omega (arith, field_in_lem ids c q)))))
  means_by f i w l (of_dense ids e z d o) kid =
      subst (λ k. Means tree (ty_as tree (ty_of tree f) k i) i) (sym e)
      ((l, e), λ c q. (refl, subst (MeansFrom f) (child_same i (field_of ids c)) (kid (field_of ids c) (omega (arith, field_in_lem ids c q)))))
  means_by f i w l (of_run_lem m e z e1 z1 d) kid =
      let next : suc i < n = subst (λ k. k < n) (first_child i) (child_inside schema first n w i 0 l (omega arith)) in
      subst (λ k. Means tree (ty_as tree (ty_of tree f) k i) i) (sym e)
      ((l, e), record { number = m; is_ends_lem = (next, e1); wide = refl }, subst (MeansFrom f) (second_child i next z1) (kid 1 (omega arith)))
  means_by f i w l (of_dictionary m p e z e1 z1 g d) kid =
      let next : suc i < n = subst (λ k. k < n) (first_child i) (child_inside schema first n w i 0 l (omega arith)) in
      subst (λ k. Means tree (ty_as tree (ty_of tree f) k i) i) (sym e)
      ((l, e), subst (λ q. MeansPlain tree q (suc i)) (sym (ap plain_as e1 ∙ plain_as_lem p)) (plain_means p (suc i) next e1))

  formed_by : (f i : ℕ) → whole schema first n ≡ true → i < n → Shaped formats schema first i
      → ((j : ℕ) → j < below schema first i → Formed (ty_of tree f (child_at schema first n i j))) → Formed (ty_as tree (ty_of tree f) (kind_at formats schema first i) i)
  formed_by f i w l (of_plain_lem (fixed m) e z d) kid = subst (λ k. Formed (ty_as tree (ty_of tree f) k i)) (sym e) d
  formed_by f i w l (of_plain_lem (string v) e z d) kid = subst (λ k. Formed (ty_as tree (ty_of tree f) k i)) (sym e) d
  formed_by f i w l (of_view e z) kid = subst (λ k. Formed (ty_as tree (ty_of tree f) k i)) (sym e) tt
  formed_by f i w l (of_list v e z d) kid =
      subst (λ k. Formed (ty_as tree (ty_of tree f) k i)) (sym e) (d, subst (λ k. Formed (ty_of tree f k)) (first_child i) (kid 0 (omega arith)))
  formed_by f i w l (of_lists_lem v e z d) kid =
      subst (λ k. Formed (ty_as tree (ty_of tree f) k i)) (sym e) (d, subst (λ k. Formed (ty_of tree f k)) (first_child i) (kid 0 (omega arith)))
  formed_by f i w l (of_sparse ids e z d o) kid =
      subst (λ k. Formed (ty_as tree (ty_of tree f) k i)) (sym e)
      (d, λ c q. subst (λ k. Formed (ty_of tree f k)) (child_same i (field_of ids c)) (kid (field_of ids c) (omega (arith, field_in_lem ids c q))))
  formed_by f i w l (of_dense ids e z d o) kid =
      subst (λ k. Formed (ty_as tree (ty_of tree f) k i)) (sym e)
      (d, λ c q. subst (λ k. Formed (ty_of tree f k)) (child_same i (field_of ids c)) (kid (field_of ids c) (omega (arith, field_in_lem ids c q))))
  formed_by f i w l (of_run_lem m e z e1 z1 d) kid =
      let next : suc i < n = subst (λ k. k < n) (first_child i) (child_inside schema first n w i 0 l (omega arith)) in
      subst (λ k. Formed (ty_as tree (ty_of tree f) k i)) (sym e) (d, subst (λ k. Formed (ty_of tree f k)) (second_child i next z1) (kid 1 (omega arith)))
  formed_by f i w l (of_dictionary m p e z e1 z1 g d) kid =
      subst (λ k. Formed (ty_as tree (ty_of tree f) k i)) (sym e) (g, subst FormedPlain (sym (ap plain_as e1 ∙ plain_as_lem p)) d)

  pub some_node : whole schema first n ≡ true → 0 < n
  some_node w =
      let p = both (leb 1 n && eqb (due_from schema first n 1 0) 0) (eqb (end_of schema first n 0) n) (sym (whole_is schema first n) ∙ w) in
      leb-true 1 n (both (leb 1 n) (eqb (due_from schema first n 1 0) 0) p.0).0

  pub whole_end : whole schema first n ≡ true → end_of schema first n 0 ≡ n
  whole_end w = eqb-true (end_of schema first n 0) n (both (leb 1 n && eqb (due_from schema first n 1 0) 0) (eqb (end_of schema first n 0) n) (sym (whole_is schema first n) ∙ w)).1

  pub root : 9 ≤ depth schema first n 0 + 8
  unfolding depth
  root = omega arith

  module _ (t : typed formats schema first n ≡ true) (c : ceilings formats schema first n ≡ true) where
    means_at : (f i : ℕ) → i < n → 9 ≤ depth schema first n i + f → MeansFrom f i
    means_at zero i l h = absurd (omega (arith, within_depth formats schema first n c i l))
    means_at (suc f) i l h =
        let w = typed_whole formats schema first n t in
        subst (λ u. Means tree u i) (sym (type_by_lem tree f i))
        (means_by f i w l (shaped formats schema first i (typed_shape formats schema first n t i l))
        (λ j b. means_at f (child_at schema first n i j) (child_inside schema first n w i j l b) (omega (arith, child_depth schema first n w i j l b))))

    -- THE TREE STANDS FOR A TYPE
    pub means : Means tree (type_of formats schema first n) 0
    means = means_at 8 0 (some_node (typed_whole formats schema first n t)) root

    formed_at : (f i : ℕ) → i < n → 9 ≤ depth schema first n i + f → Formed (ty_of tree f i)
    formed_at zero i l h = absurd (omega (arith, within_depth formats schema first n c i l))
    formed_at (suc f) i l h =
        let w = typed_whole formats schema first n t in
        subst Formed (sym (type_by_lem tree f i))
        (formed_by f i w l (shaped formats schema first i (typed_shape formats schema first n t i l))
        (λ j b. formed_at f (child_at schema first n i j) (child_inside schema first n w i j l b) (omega (arith, child_depth schema first n w i j l b))))

    -- .. THAT 01 ADMITS
    pub formed : Formed (type_of formats schema first n)
    formed = formed_at 8 0 (some_node (typed_whole formats schema first n t)) root
