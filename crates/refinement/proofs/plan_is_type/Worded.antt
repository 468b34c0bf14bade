-- A plan that has a tree's words stands for the tree's type. Assumes nothing.
use mathlib.Core.Path.{◌≡◌, refl, ap, sym, subst, ◌∙◌}
use mathlib.Core.Bool.{Bool, true, false}
use mathlib.Core.List.{List, Memᴰ}
use Prim.Native.Nat.{ℕ, zero, suc, ◌+◌, ◌≤◌, ◌<◌}
use native.Mathlib.Omega.{arith}
use lib.ListN.{length}
use lib.Dec.{eqb}
use borrow.Author.Tests.{eqb-false}
use Rattle.columnar.specs.Types.{width, fixed, string}
use Rattle.columnar.specs.Formed.{RunWidth, two, four, eight}
use Rattle.schema.specs.formats.Code.{is_fixed, is_string, is_view, is_list_view, is_list, width_of}
use Rattle.schema.specs.Tree.{dictionary, below, end_of, child_at, depth, code_of, ids_of, ceilings, typed}
use Rattle.schema.proofs.Trees.{child_inside, children_end, end_after}
use Rattle.schema.proofs.Depth.{child_depth}
use Rattle.schema.proofs.Known.{typed_whole, typed_shape, within_depth}
use Rattle.array_data.proofs.type_tree.ByKind.{ty_as, type_by_lem}
use Rattle.array_data.specs.NodeKinds.{NodeKind, kind_at}
use Rattle.array_data.specs.Typed.{Tree, field_of, node_of}
use Rattle.array_data.specs.type_tree.Lent.{tree_of, ty_of, type_of}
use Rattle.array_data.proofs.type_tree.Ids.{field_in_lem}
use Rattle.array_data.proofs.type_tree.Shaped.{Shaped, of_plain_lem, of_view, of_list, of_lists_lem, of_sparse, of_dense, of_run_lem, of_dictionary, shaped}
use Rattle.array_data.proofs.type_tree.Lent.{child_same, first_child, second_child, some_node, root}
use Rattle.walk.specs.Copy.{is_width}
use Rattle.refinement.specs.walk_is_model.Holds.{Worded}
use Rattle.refinement.specs.plan_is_type.Planted.{Planted}
use Rattle.refinement.proofs.plan_is_type.Codes.{Coded, no_dictionary}
use Rattle.refinement.proofs.plan_is_type.Planted.{in_plan_lem, code_is, dictionary_is, end_is, coded_is, few_ids, fields}

run_width_lem : (v : ℕ) → RunWidth v → is_width v ≡ true
unfolding is_width
run_width_lem _ RunWidth.two = refl
run_width_lem _ RunWidth.four = refl
run_width_lem _ RunWidth.eight = refl

module _ (formats schema : List ℕ) (first n : ℕ) (plan : List ℕ)
    (t : typed formats schema first n ≡ true) (c : ceilings formats schema first n ≡ true) (p : Planted plan formats schema first n) where
  abbrev tree : Tree
  tree = tree_of formats schema first n

  abbrev code : ℕ → ℕ
  code i = code_of formats schema first i

  abbrev CodedAt : ℕ → NodeKind → Type 0
  CodedAt i = Coded (code i) (eqb (dictionary schema first i) 0) (ids_of formats schema first i) (code (suc i))

  abbrev WordedFrom : ℕ → ℕ → Type 0
  WordedFrom f i = Worded plan f (ty_of tree f i) i

  -- a test of the plan's code, and the bytes of an entry
  as_code : (test : ℕ → Bool) (i : ℕ) → i < n → test (code i) ≡ true → test (Rattle.walk.specs.State.code_of plan i) ≡ true
  as_code test i l h = ap test (code_is formats schema first n plan t c p i l) ∙ h

  as_bytes : (i v : ℕ) → i < n → width_of (code i) ≡ v → width_of (Rattle.walk.specs.State.code_of plan i) ≡ v
  as_bytes i v l h = ap width_of (code_is formats schema first n plan t c p i l) ∙ h

  known : (i : ℕ) → i < n → (k : NodeKind) → kind_at formats schema first i ≡ k → CodedAt i k
  known i l k e = subst (CodedAt i) e (coded_is formats schema first n plan t c p i l)

  spans : (i : ℕ) → i < n → i < Rattle.walk.specs.State.end_of plan i
  spans i l = omega (arith, end_is formats schema first n plan t c p i l, end_after schema first n i l)

  -- a node ends where its last child does
  ends_with : (i k : ℕ) → i < n → k < n → child_at schema first n i (below schema first i) ≡ end_of schema first n k
      → Rattle.walk.specs.State.end_of plan i ≡ Rattle.walk.specs.State.end_of plan k
  ends_with i k l h e = end_is formats schema first n plan t c p i l ∙ sym (children_end schema first n i l) ∙ e ∙ sym (end_is formats schema first n plan t c p k h)

  next_in : (i : ℕ) → i < n → 0 < below schema first i → suc i < n
  next_in i l h = subst (λ k. k < n) (first_child formats schema first n i) (child_inside schema first n (typed_whole formats schema first n t) i 0 l h)

  module _ (f i : ℕ) (l : i < n) where
    abbrev Here : NodeKind → Type 0
    Here k = Worded plan (suc f) (ty_as tree (ty_of tree f) k i) i

    small : i < 32
    small = in_plan_lem formats schema first n plan t c p i l

    single : below schema first i ≡ 0 → Rattle.walk.specs.State.dictionary_of plan i ≡ 0
    single z = dictionary_is formats schema first n plan t c p i l ∙ no_dictionary formats schema first i z

    field_worded : (ids : List ℕ) → below schema first i ≡ length ids → ((j : ℕ) → j < below schema first i → WordedFrom f (child_at schema first n i j))
        → (e : ℕ) → Memᴰ e ids → Worded plan f (ty_of tree f (node_of tree i ids e)) (child_at schema first n i (field_of ids e))
    field_worded ids z kid e q =
        subst (λ k. Worded plan f (ty_of tree f k) (child_at schema first n i (field_of ids e))) (child_same formats schema first n i (field_of ids e))
        (kid (field_of ids e) (omega (arith, field_in_lem ids e q)))

    worded_by : Shaped formats schema first i → ((j : ℕ) → j < below schema first i → WordedFrom f (child_at schema first n i j)) → Here (kind_at formats schema first i)
    unfolding child_at
    worded_by (of_plain_lem (fixed m) e z d) kid =
        let k = known i l _ e in
        subst Here (sym e) (small, spans i l, single z, (as_code is_fixed i l k.0, as_bytes i (width m) l k.1))
    worded_by (of_plain_lem (string v) e z d) kid =
        let k = known i l _ e in
        subst Here (sym e) (small, spans i l, single z, (as_code is_string i l k.0, as_bytes i v l k.1))
    worded_by (of_view e z) kid = subst Here (sym e) (small, spans i l, as_code is_view i l (known i l _ e))
    worded_by (of_list v e z d) kid =
        let k = known i l _ e in
        let one : below schema first i ≡ 1 = z in
        subst Here (sym e)
        (small, ends_with i (suc i) l (next_in i l (omega arith)) (ap (child_at schema first n i) one), as_code is_list_view i l k.0, as_bytes i v l k.1, kid 0 (omega arith))
    worded_by (of_lists_lem v e z d) kid =
        let k = known i l _ e in
        let one : below schema first i ≡ 1 = z in
        subst Here (sym e)
        (small, ends_with i (suc i) l (next_in i l (omega arith)) (ap (child_at schema first n i) one), as_code is_list i l k.0, as_bytes i v l k.1, kid 0 (omega arith))
    worded_by (of_sparse ids e z d o) kid =
        let k = known i l _ e in
        subst Here (sym e) (
          small,
          code_is formats schema first n plan t c p i l ∙ k.0,
          few_ids formats schema first n plan t c p i l true ids e,
          spans i l,
          fields formats schema first n plan t c p i l true ids e (λ e. Worded plan f (ty_of tree f (node_of tree i ids e))) (field_worded ids z kid),
        )
    worded_by (of_dense ids e z d o) kid =
        let k = known i l _ e in
        subst Here (sym e) (
          small,
          code_is formats schema first n plan t c p i l ∙ k.0,
          few_ids formats schema first n plan t c p i l false ids e,
          spans i l,
          fields formats schema first n plan t c p i l false ids e (λ e. Worded plan f (ty_of tree f (node_of tree i ids e))) (field_worded ids z kid),
        )
    worded_by (of_run_lem m e z e1 z1 d) kid =
        let k = known i l _ e in
        let next = next_in i l (omega arith) in
        let at : child_at schema first n i 1 ≡ suc (suc i) = second_child formats schema first n i next z1 in
        let in2 : suc (suc i) < n = subst (λ k. k < n) at (child_inside schema first n (typed_whole formats schema first n t) i 1 l (omega arith)) in
        let k1 = known (suc i) next _ e1 in
        subst Here (sym e) (
          small,
          ends_with i (suc (suc i)) l in2 (ap (child_at schema first n i) z ∙ ap (end_of schema first n) at),
          code_is formats schema first n plan t c p i l ∙ k.0,
          as_bytes (suc i) (width m) next k1.1,
          subst (WordedFrom f) at (kid 1 (omega arith)),
          run_width_lem (width m) d,
        )
    worded_by (of_dictionary m q e z e1 z1 g d) kid =
        let k = known i l _ e in
        let nd = eqb-false (dictionary schema first i) 0 k.2 in
        subst Here (sym e) (small, spans i l, λ y. nd (sym (dictionary_is formats schema first n plan t c p i l) ∙ y), as_code is_fixed i l k.0, as_bytes i (width m) l k.1)

  worded_at : (f i : ℕ) → i < n → 9 ≤ depth schema first n i + f → WordedFrom f i
  worded_at zero i l h = absurd (omega (arith, within_depth formats schema first n c i l))
  worded_at (suc f) i l h =
      let w = typed_whole formats schema first n t in
      subst (λ u. Worded plan (suc f) u i) (sym (type_by_lem tree f i))
      (worded_by f i l (shaped formats schema first i (typed_shape formats schema first n t i l))
      (λ j b. worded_at f (child_at schema first n i j) (child_inside schema first n w i j l b) (omega (arith, child_depth schema first n w i j l b))))

  -- THE STATE STANDS FOR THE TYPE
  pub planted_worded : Worded plan 8 (type_of formats schema first n) 0
  planted_worded = worded_at 8 0 (some_node formats schema first n (typed_whole formats schema first n t)) (root formats schema first n)
