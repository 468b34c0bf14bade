-- The nodes below the root of a list or list-view, as a tree of their own. Assumes nothing.
use mathlib.Core.Path.{◌≡◌, refl, sym, ap, subst, ◌∙◌}
use mathlib.Core.Bool.{Bool, true, false, cond, ◌&&◌, false≢true}
use mathlib.Core.Option.{Option, none, some}
use mathlib.Core.List.{List, Memᴰ}
use Prim.Native.Nat.{ℕ, zero, suc, ◌+◌, ◌-◌, ◌≤◌, ◌<◌}
use native.Mathlib.Omega.{arith}
use lib.ListN.{length}
use lib.Dec.{leb, eqb}
use borrow.Author.Tests.{le-leb, eq-eqb, ne_eqb, eqb-true}
use Rattle.columnar.specs.Types.{Plain, fixed, string, Ty, t_plain, t_view, t_list_view, t_list, t_sparse, t_dense, t_run_end, t_dictionary}
use Rattle.schema.specs.formats.Code.{code_at}
use Rattle.schema.specs.union_ids.Ids.{ids_at}
use Rattle.schema.proofs.Due.{due_from, whole_is}
use Rattle.schema.specs.Tree.{field, dictionary, below, end_from, bare, child_for_each, is_values, end_of, child_at, whole, code_of, ids_of, values_shape, ends_shape, leaf_shape, keys_shape, list_shape, union_shape, run_shape, shape}
use Rattle.schema.proofs.Trees.{child_inside, end_after, end_inside}
use Rattle.schema.proofs.Depth.{nested, child_before}
use Rattle.array_data.specs.NodeKinds.{NodeKind, kind_at}
use Rattle.array_data.specs.Typed.{Tree, child_node, field_of, node_of, Is, MeansPlain, Means, kind_in, nullable_in, subtree_end}
use Rattle.array_data.proofs.Names.{union_kind}

-- ---- a tree without its root

module _ (schema : List ℕ) (first : ℕ) where
  pub past : (i : ℕ) → suc first + i ≡ first + suc i
  past i = omega arith

  pub below_past : (i : ℕ) → below schema (suc first) i ≡ below schema first (suc i)
  unfolding below
  below_past i = ap (λ k. field schema k 3 + cond (eqb (field schema k 4) 0) 0 1) (past i)

  end_past : (f p i : ℕ) → suc (end_from schema (suc first) f p i) ≡ end_from schema first f p (suc i)
  unfolding end_from
  end_past zero p i = refl
  end_past (suc f) zero i = refl
  end_past (suc f) (suc p) i = end_past f (p + below schema (suc first) i) (suc i) ∙ ap (λ b. end_from schema first f (p + b) (suc (suc i))) (below_past i)

  due_past : (f p i : ℕ) → due_from schema (suc first) f p i ≡ due_from schema first f p (suc i)
  unfolding due_from
  due_past zero p i = refl
  due_past (suc f) zero i = refl
  due_past (suc f) (suc p) i = due_past f (p + below schema (suc first) i) (suc i) ∙ ap (λ b. due_from schema first f (p + b) (suc (suc i))) (below_past i)

  pub ends_past : (n i : ℕ) → end_of schema first (suc n) (suc i) ≡ suc (end_of schema (suc first) n i)
  unfolding end_of
  ends_past n i = let e : suc n - suc i ≡ n - i = omega arith in rw e (sym (end_past (n - i) 1 i))

  root_end : (n : ℕ) → below schema first 0 ≡ 1 → end_of schema first (suc n) 0 ≡ suc (end_of schema (suc first) n 0)
  unfolding end_of end_from
  root_end n b =
      let e : suc n - 0 ≡ suc n = omega arith in
      let z : 0 + below schema first 0 ≡ 1 = omega (arith, b) in
      let m : n - 0 ≡ n = omega arith in
      ap (λ k. end_from schema first k 1 0) e ∙ ap (λ k. end_from schema first n k 1) z ∙ sym (end_past n 1 0) ∙ ap (λ k. suc (end_from schema (suc first) k 1 0)) (sym m)

  root_due : (n : ℕ) → below schema first 0 ≡ 1 → due_from schema first (suc n) 1 0 ≡ due_from schema (suc first) n 1 0
  unfolding due_from
  root_due n b = let z : 0 + below schema first 0 ≡ 1 = omega (arith, b) in ap (λ k. due_from schema first n k 1) z ∙ sym (due_past n 1 0)

  -- what is below a root with one child is whole
  pub whole_past : (n : ℕ) → 1 ≤ n → below schema first 0 ≡ 1 → whole schema first (suc n) ≡ true → whole schema (suc first) n ≡ true
  whole_past n l b w =
      let p = and_both (leb 1 (suc n) && eqb (due_from schema first (suc n) 1 0) 0) (eqb (end_of schema first (suc n) 0) (suc n)) (sym (whole_is schema first (suc n)) ∙ w) in
      let q = and_both (leb 1 (suc n)) (eqb (due_from schema first (suc n) 1 0) 0) p.0 in
      let d : due_from schema (suc first) n 1 0 ≡ 0 = sym (root_due n b) ∙ eqb-true _ _ q.1 in
      let e : suc (end_of schema (suc first) n 0) ≡ suc n = sym (root_end n b) ∙ eqb-true _ _ p.1 in
      whole_is schema (suc first) n ∙ rw (le-leb 1 n l, eq-eqb _ _ d, eq-eqb (end_of schema (suc first) n 0) n (omega arith))
    where
      and_both : (a b : Bool) → a && b ≡ true → (a ≡ true) × (b ≡ true)
      and_both true b h = (refl, h)
      and_both false b h = absurd (false≢true h)

  each_past : (o : Option (List ℕ)) (i : ℕ) → child_for_each schema (suc first) o i ≡ child_for_each schema first o (suc i)
  each_past none i = refl
  each_past (some ids) i = ap (λ k. eqb (length ids) (field schema k 3)) (past i)

  bare_past : (i : ℕ) → bare schema (suc first) i ≡ bare schema first (suc i)
  unfolding bare
  bare_past i = ap (λ k. eqb (field schema k 3) 0 && eqb (field schema k 4) 0) (past i)

module _ (formats schema : List ℕ) (first : ℕ) where
  code_past : (i : ℕ) → code_of formats schema (suc first) i ≡ code_of formats schema first (suc i)
  unfolding code_of
  code_past i = ap (λ k. code_at formats (field schema k 0) (field schema k 1)) (past schema first i)

  ids_past : (i : ℕ) → ids_of formats schema (suc first) i ≡ ids_of formats schema first (suc i)
  unfolding ids_of
  ids_past i = ap (λ k. ids_at formats (field schema k 0) (field schema k 1)) (past schema first i)

  leaf_past : (i : ℕ) → leaf_shape formats schema (suc first) i ≡ leaf_shape formats schema first (suc i)
  unfolding leaf_shape
  leaf_past i = rw (code_past i, bare_past schema first i)

  values_past : (i : ℕ) → values_shape formats schema (suc first) i ≡ values_shape formats schema first (suc i)
  unfolding values_shape
  values_past i = rw (code_past i, bare_past schema first i)

  run_ends_past : (i : ℕ) → ends_shape formats schema (suc first) i ≡ ends_shape formats schema first (suc i)
  unfolding ends_shape
  run_ends_past i = rw (code_past i, bare_past schema first i)

  keys_past : (i : ℕ) → keys_shape formats schema (suc first) i ≡ keys_shape formats schema first (suc i)
  unfolding keys_shape
  keys_past i = rw (code_past i, values_past (suc i), past schema first i)

  list_past : (i : ℕ) → list_shape formats schema (suc first) i ≡ list_shape formats schema first (suc i)
  unfolding list_shape
  list_past i = rw (code_past i, past schema first i)

  union_past : (i : ℕ) → union_shape formats schema (suc first) i ≡ union_shape formats schema first (suc i)
  unfolding union_shape
  union_past i = rw (code_past i, ids_past i, each_past schema first (ids_of formats schema first (suc i)) i, past schema first i)

  run_past : (i : ℕ) → run_shape formats schema (suc first) i ≡ run_shape formats schema first (suc i)
  unfolding run_shape
  run_past i = rw (code_past i, run_ends_past (suc i), past schema first i)

  pub shape_past : (i : ℕ) → shape formats schema (suc first) i ≡ shape formats schema first (suc i)
  unfolding shape
  shape_past i = rw (leaf_past i, keys_past i, list_past i, union_past i, run_past i)

  pub kind_past : (i : ℕ) → kind_at formats schema (suc first) i ≡ kind_at formats schema first (suc i)
  unfolding kind_at
  kind_past i = rw (code_past i, ids_past i, code_past (suc i), past schema first i)

-- ---- a child of a node without a dictionary is no dictionary's values

module _ (schema : List ℕ) (first n : ℕ) (w : whole schema first n ≡ true) where
  keys_below_lem : (m : ℕ) → dictionary schema first m ≡ 1 → 0 < below schema first m
  unfolding below
  keys_below_lem m e =
      let one : ◌≡◌ {A = ℕ} (cond (eqb (dictionary schema first m) 0) 0 1) 1 = ap (λ d. cond (eqb d 0) 0 1) e in
      omega arith

  values_after : (e k : ℕ) → k < n → end_of schema first n k ≡ e → is_values schema first e ≡ false
  unfolding is_values child_at
  values_after zero k l h = refl
  values_after (suc m) k l h =
      let up = end_after schema first n k l in
      let top = end_inside schema first n k (omega arith) in
      ne_eqb (dictionary schema first m) 1
      (λ d. let c : suc m < end_of schema first n m = child_before schema first n w m 0 (omega arith) (keys_below_lem m d) in omega (arith, nested schema first n m k (omega arith) (omega arith)))

  pub values_no : (i j : ℕ) → i < n → j < below schema first i → dictionary schema first i ≡ 0 → is_values schema first (child_at schema first n i j) ≡ false
  unfolding is_values child_at
  values_no i zero l h s = ne_eqb (dictionary schema first i) 1 (λ e. omega arith)
  values_no i (suc j) l h s = values_after (end_of schema first n (child_at schema first n i j)) (child_at schema first n i j) (child_inside schema first n w i j l (omega arith)) refl

-- ---- two trees that agree below their roots

-- what they agree on
pub record Alike (t u : Tree) : Type 0 where
  pub counters : t.count ≡ u.count
  pub kinds : (i : ℕ) → 0 < i → i < t.count → kind_in t i ≡ kind_in u i
  pub ends : (i : ℕ) → 0 < i → subtree_end t i ≡ subtree_end u i
  pub flags : (i : ℕ) (b : Bool) (ids : List ℕ) → 0 < i → Is t i (union_kind b ids) → (c : ℕ) → Memᴰ c ids → nullable_in t (node_of t i ids c) ≡ nullable_in u (node_of t i ids c)
  pub later : (i j : ℕ) → 0 < i → 0 < child_node t i j

module _ (t u : Tree) (a : Alike t u) where
  pub kid_same : (i j : ℕ) → 0 < i → child_node t i j ≡ child_node u i j
  kid_same i zero l = refl
  kid_same i (suc j) l = a.ends (child_node t i j) (a.later i j l) ∙ ap (subtree_end u) (kid_same i j l)

  is_same : (i : ℕ) (k : NodeKind) → 0 < i → Is t i k → Is u i k
  is_same i k l h = (omega (arith, a.counters, h.0), sym (a.kinds i l h.0) ∙ h.1)

  plain_same : (p : Plain) (i : ℕ) → 0 < i → MeansPlain t p i → MeansPlain u p i
  plain_same (fixed m) i l h = is_same i _ l h
  plain_same (string v) i l h = is_same i _ l h

  -- A NODE BELOW THE ROOT STANDS FOR THE SAME TYPE
  pub means_same : (y : Ty) (i : ℕ) → 0 < i → Means t y i → Means u y i
  means_same (t_plain p) i l h = plain_same p i l h
  means_same t_view i l h = is_same i _ l h
  means_same (t_list_view w y) i l h = (is_same i _ l h.0, means_same y (suc i) (omega arith) h.1)
  means_same (t_list w y) i l h = (is_same i _ l h.0, means_same y (suc i) (omega arith) h.1)
  means_same (t_sparse ids nullable f) i l h = (
    is_same i _ l h.0,
    λ c q. let e = kid_same i (field_of ids c) l in (
      (h.1 c q).0 ∙ a.flags i true ids l h.0 c q ∙ ap (nullable_in u) e,
      subst (Means u (f c)) e (means_same (f c) (node_of t i ids c) (a.later i (field_of ids c) l) (h.1 c q).1),
    ),
  )
  means_same (t_dense ids nullable f) i l h = (
    is_same i _ l h.0,
    λ c q. let e = kid_same i (field_of ids c) l in (
      (h.1 c q).0 ∙ a.flags i false ids l h.0 c q ∙ ap (nullable_in u) e,
      subst (Means u (f c)) e (means_same (f c) (node_of t i ids c) (a.later i (field_of ids c) l) (h.1 c q).1),
    ),
  )
  means_same (t_run_end w y) i l h = (
    is_same i _ l h.0,
    record { number = h.1.number; is_ends_lem = is_same (suc i) _ (omega arith) h.1.is_ends_lem; wide = h.1.wide },
    means_same y (suc (suc i)) (omega arith) h.2,
  )
  means_same (t_dictionary k p) i l h = (is_same i _ l h.0, plain_same p (suc i) (omega arith) h.1)
