-- The codes of a typed tree's nodes say whether its column is one of numbers. Assumes nothing.
use mathlib.Core.Path.{◌≡◌, refl, sym, ap, subst, ◌∙◌}
use mathlib.Core.Bool.{Bool, true, false, not, cond, ◌&&◌, ◌||◌, false≢true, and-eq-true_iff}
use mathlib.Core.Option.{get_or}
use mathlib.Core.List.{List, []}
use Prim.Native.Nat.{ℕ, suc, ◌≤◌, ◌<◌}
use native.Mathlib.Omega.{arith}
use lib.Dec.{leb, eqb}
use borrow.Author.Tests.{leb-true, leb-false, le-leb, lt-leb}
use Rattle.columnar.specs.Types.{Number, int, w1, Plain, fixed, string, Ty, t_plain, t_view, t_list_view, t_list, t_sparse, t_dense, t_run_end, t_dictionary}
use Rattle.schema.specs.formats.Code.{last_code, between, is_fixed, is_string, is_view, is_list_view, is_list, is_union, is_run_end, width_of}
use Rattle.schema.specs.formats.Types.{number_of, number_or, plain_of}
use Rattle.schema.specs.Tree.{dictionary, nullable, below, child_at, code_of, ids_of, typed}
use Rattle.schema.proofs.Trees.{child_inside}
use Rattle.schema.proofs.Known.{typed_whole, typed_shape}
use Rattle.array_data.specs.NodeKinds.{kind_at}
use Rattle.array_data.specs.Typed.{Tree, node_of}
use Rattle.array_data.specs.type_tree.Lent.{tree_of, ty_of, type_of}
use Rattle.array_data.proofs.type_tree.Lent.{first_child, second_child, some_node}
use Rattle.array_data.proofs.type_tree.Shaped.{Shaped, of_plain_lem, of_view, of_list, of_lists_lem, of_sparse, of_dense, of_run_lem, of_dictionary, shaped, at_run, plain_kind}
use Rattle.row_reader.specs.row_pair.Same.{number_plain, number_type, number_node, of_numbers}
use Rattle.row_reader.proofs.meaning.Words.{is_run_kind, code_low, coded}

-- ---- codes

-- a code from a on that is not in a .. b is above it
above : (a b x : ℕ) → between a b x ≡ false → a ≤ x → b < x
above a b x h l = go (leb x b) refl
  where
    go : (v : Bool) → leb x b ≡ v → b < x
    go true e = absurd (false≢true (sym h ∙ (and-eq-true_iff (leb a x) (leb x b)).1 (le-leb a x l, e)))
    go false e = omega (arith, leb-false x b e)

-- one in a .. b is in no range behind it
no_other : (a b c d x : ℕ) → between a b x ≡ true → b < c → between c d x ≡ false
no_other a b c d x h l =
    let top = leb-true x b ((and-eq-true_iff (leb a x) (leb x b)).0 h).1 in
    rw (lt-leb c x (omega arith))

no_run : (a b x : ℕ) → between a b x ≡ true → b < 23 → is_run_end x ≡ false
no_run a b x h l = no_other a b 23 23 x h l

and_false : (s : Bool) → false ≡ s && false
and_false true = refl
and_false false = refl

-- ---- the type of a node by the tests of its code: f g v l m u r, whether it has no dictionary (z), and whether its ids are a sparse union's (s)
module _ (z s : Bool) (key : Number) (values : Plain) (w : ℕ) (num : Number) (child : Ty) (ids : List ℕ) (flags : ℕ → Bool) (fields : ℕ → Ty) (e : ℕ) (last : Ty) where
  abbrev type_by : Bool → Bool → Bool → Bool → Bool → Bool → Bool → Ty
  type_by f g v l m u r =
      cond (f && not z) (t_dictionary key values)
      (cond (f || g) (t_plain (cond g (string w) (fixed num)))
      (cond v t_view (cond l (t_list_view w child) (cond m (t_list w child) (cond u (cond s (t_sparse ids flags fields) (t_dense ids flags fields)) (cond r (t_run_end e last) (t_plain (fixed (int w1)))))))))

  -- it is one of numbers, alone and with run-end columns
  abbrev Said : Bool → Bool → Ty → Type 0
  Said f r t = (number_plain t ≡ z && f) × (number_type t ≡ cond r (number_plain last) (z && f))

  -- where no run end stands
  settle : (f r : Bool) (t : Ty) → number_plain t ≡ z && f → number_type t ≡ z && f → false ≡ r → Said f r t
  settle f r t p q h = (p, q ∙ ap (λ b. cond b (number_plain last) (z && f)) h)

  number_said : (c : Bool)
      → (number_plain (cond (not c) (t_dictionary key values) (t_plain (fixed num))) ≡ c && true) × (number_type (cond (not c) (t_dictionary key values) (t_plain (fixed num))) ≡ c && true)
  number_said true = (refl, refl)
  number_said false = (refl, refl)

  union_said : (b : Bool)
      → (number_plain (cond b (t_sparse ids flags fields) (t_dense ids flags fields)) ≡ false) × (number_type (cond b (t_sparse ids flags fields) (t_dense ids flags fields)) ≡ false)
  union_said true = (refl, refl)
  union_said false = (refl, refl)

  said : (c : ℕ) → 1 ≤ c → c ≤ last_code → Said (is_fixed c) (is_run_end c) (type_by (is_fixed c) (is_string c) (is_view c) (is_list_view c) (is_list c) (is_union c) (is_run_end c))
  said c low top = go (is_fixed c) refl (is_string c) refl (is_view c) refl (is_list_view c) refl (is_list c) refl (is_union c) refl (is_run_end c) refl
    where
      go : (f : Bool) → is_fixed c ≡ f → (g : Bool) → is_string c ≡ g → (v : Bool) → is_view c ≡ v → (l : Bool) → is_list_view c ≡ l → (m : Bool) → is_list c ≡ m → (u : Bool) → is_union c ≡ u → (r : Bool) → is_run_end c ≡ r
          → Said f r (type_by f g v l m u r)
      go true e0 true e1 v e2 l e3 m e4 u e5 r e6 = absurd (false≢true (sym (no_other 1 10 11 14 c e0 (omega arith)) ∙ e1))
      go true e0 false e1 v e2 l e3 m e4 u e5 r e6 =
          let p = number_said z in
          settle true r (type_by true false v l m u r) p.0 p.1 (sym (no_run 1 10 c e0 (omega arith)) ∙ e6)
      go false e0 true e1 v e2 l e3 m e4 u e5 r e6 = settle false r (type_by false true v l m u r) (and_false z) (and_false z) (sym (no_run 11 14 c e1 (omega arith)) ∙ e6)
      go false e0 false e1 true e2 l e3 m e4 u e5 r e6 = settle false r t_view (and_false z) (and_false z) (sym (no_run 15 16 c e2 (omega arith)) ∙ e6)
      go false e0 false e1 false e2 true e3 m e4 u e5 r e6 = settle false r (t_list_view w child) (and_false z) (and_false z) (sym (no_run 17 18 c e3 (omega arith)) ∙ e6)
      go false e0 false e1 false e2 false e3 true e4 u e5 r e6 = settle false r (t_list w child) (and_false z) (and_false z) (sym (no_run 19 20 c e4 (omega arith)) ∙ e6)
      go false e0 false e1 false e2 false e3 false e4 true e5 r e6 =
          let p = union_said s in
          settle false r (cond s (t_sparse ids flags fields) (t_dense ids flags fields)) (p.0 ∙ and_false z) (p.1 ∙ and_false z) (sym (no_run 21 22 c e5 (omega arith)) ∙ e6)
      go false e0 false e1 false e2 false e3 false e4 false e5 true e6 = (and_false z, refl)
      go false e0 false e1 false e2 false e3 false e4 false e5 false e6 =
          let past = above 23 23 c e6 (above 21 22 c e5 (above 19 20 c e4 (above 17 18 c e3 (above 15 16 c e2 (above 11 14 c e1 (above 1 10 c e0 low)))))) in
          absurd (omega arith)

-- ---- a column's codes

module _ (formats schema : List ℕ) (first n : ℕ) (t : typed formats schema first n ≡ true) where
  root_in : 0 < n
  root_in = some_node formats schema first n (typed_whole formats schema first n t)

  abbrev code : ℕ → ℕ
  code i = code_of formats schema first i

  abbrev ids : ℕ → List ℕ
  ids i = get_or (ids_of formats schema first i) []

  -- the type of node i, down to a depth of suc f
  node_said : (f i : ℕ) → i < n
      → (number_plain (ty_of (tree_of formats schema first n) (suc f) i) ≡ number_node formats schema first i)
      × (number_type (ty_of (tree_of formats schema first n) (suc f) i) ≡ cond (is_run_end (code i)) (number_plain (ty_of (tree_of formats schema first n) f (suc (suc i)))) (number_node formats schema first i))
  unfolding ty_of number_node
  node_said f i l =
      let tree : Tree = tree_of formats schema first n in
      said (eqb (dictionary schema first i) 0) (eqb (code i) 21) (number_or (number_of (code i))) (plain_of (code (suc i))) (width_of (code i)) (number_or (number_of (code i))) (ty_of tree f (suc i)) (ids i)
      (λ c. nullable schema first (node_of tree i (ids i) c)) (λ c. ty_of tree f (node_of tree i (ids i) c)) (width_of (code (suc i))) (ty_of tree f (suc (suc i))) (code i)
      (coded formats schema first n i (typed_shape formats schema first n t i l)) (code_low formats schema first n i)

  plain_no_run : (p : Plain) → is_run_kind (plain_kind p) ≡ false
  plain_no_run (fixed m) = refl
  plain_no_run (string v) = refl

  -- a run-end column's values are one of its nodes
  values_in : is_run_kind (kind_at formats schema first 0) ≡ true → 2 < n
  values_in h = by (shaped formats schema first 0 (typed_shape formats schema first n t 0 root_in))
    where
      inside : (k : ℕ) → k < below schema first 0 → child_at schema first n 0 k < n
      inside k l = child_inside schema first n (typed_whole formats schema first n t) 0 k root_in l

      by : Shaped formats schema first 0 → 2 < n
      by (of_plain_lem p e z d) = absurd (false≢true (sym (plain_no_run p) ∙ ap is_run_kind (sym e) ∙ h))
      by (of_view e z) = absurd (false≢true (ap is_run_kind (sym e) ∙ h))
      by (of_list v e z d) = absurd (false≢true (ap is_run_kind (sym e) ∙ h))
      by (of_lists_lem v e z d) = absurd (false≢true (ap is_run_kind (sym e) ∙ h))
      by (of_sparse ids e z d o) = absurd (false≢true (ap is_run_kind (sym e) ∙ h))
      by (of_dense ids e z d o) = absurd (false≢true (ap is_run_kind (sym e) ∙ h))
      by (of_run_lem m e z e1 z1 d) =
          let one : 1 < n = subst (λ k. k < n) (first_child formats schema first n 0) (inside 0 (omega arith)) in
          subst (λ k. k < n) (second_child formats schema first n 0 one z1) (inside 1 (omega arith))
      by (of_dictionary m p e z e1 z1 g d) = absurd (false≢true (ap is_run_kind (sym e) ∙ h))

  -- THE TYPE IS ONE OF NUMBERS where the codes say so
  pub numbers_are : number_type (type_of formats schema first n) ≡ of_numbers formats schema first
  unfolding of_numbers
  numbers_are = (node_said 7 0 root_in).1 ∙ go (is_run_end (code 0)) refl
    where
      go : (b : Bool) → is_run_end (code 0) ≡ b
          → cond b (number_plain (ty_of (tree_of formats schema first n) 7 2)) (number_node formats schema first 0) ≡ cond b (number_node formats schema first 2) (number_node formats schema first 0)
      go true e = (node_said 6 2 (values_in (ap is_run_kind (at_run formats schema first 0 e)))).0
      go false e = refl
