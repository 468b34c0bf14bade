-- A target that a converter takes agrees with the column's tree below the root. Assumes nothing.
use mathlib.Core.Path.{◌≡◌, refl, sym, ap, subst, ◌∙◌}
use mathlib.Core.Bool.{Bool, true, false, ◌&&◌, ◌||◌, false≢true}
use mathlib.Core.List.{List, [], Memᴰ}
use Prim.Native.Nat.{ℕ, zero, suc, ◌-◌, ◌≤◌, ◌<◌}
use native.Mathlib.Decide.{dec_lt}
use native.Mathlib.Omega.{arith}
use lib.ListN.{length}
use lib.Dec.{eqb}
use borrow.Author.Tests.{eqb-true, ne_eqb}
use Rattle.columnar.specs.Types.{fixed, string}
use Rattle.schema.specs.Tree.{flag, dictionary, below, end_from, end_of, child_at, whole, is_values, same_flag, same_node, same_type, typed}
use Rattle.schema.specs.Tree as trees
use Rattle.schema.proofs.Trees.{child_inside, child_is, end_up}
use Rattle.schema.proofs.Known.{typed_whole, typed_shape, same_node_lem}
use Rattle.array_data.specs.NodeKinds.{NodeKind, fixed_node, string_node, view_node, list_view_node, list_node, sparse_node, dense_node, run_end_node, dictionary_node, kind_at}
use Rattle.array_data.specs.Typed.{child_node, field_of, node_of, Is}
use Rattle.array_data.specs.type_tree.Lent.{tree_of}
use Rattle.array_data.proofs.type_tree.Ids.{both, field_in_lem}
use Rattle.array_data.proofs.type_tree.Shaped.{Shaped, of_plain_lem, of_view, of_list, of_lists_lem, of_sparse, of_dense, of_run_lem, of_dictionary, shaped}
use Rattle.array_data.proofs.type_tree.Same.{end_same, kind_same}
use Rattle.convert.proofs.convert_lists.Subtree.{past, ends_past, whole_past, shape_past, kind_past, values_no, Alike}
use Rattle.array_data.proofs.Names.{union_kind}

-- ---- what the shape of a node says of its kind

is_union_kind : NodeKind → Bool
is_union_kind (fixed_node m) = false
is_union_kind (string_node w) = false
is_union_kind view_node = false
is_union_kind (list_view_node w) = false
is_union_kind (list_node w) = false
is_union_kind (sparse_node ids) = true
is_union_kind (dense_node ids) = true
is_union_kind (run_end_node w) = false
is_union_kind (dictionary_node m) = false

is_list_kind : NodeKind → Bool
is_list_kind (fixed_node m) = false
is_list_kind (string_node w) = false
is_list_kind view_node = false
is_list_kind (list_view_node w) = true
is_list_kind (list_node w) = true
is_list_kind (sparse_node ids) = false
is_list_kind (dense_node ids) = false
is_list_kind (run_end_node w) = false
is_list_kind (dictionary_node m) = false

ids_in : NodeKind → List ℕ
ids_in (fixed_node m) = []
ids_in (string_node w) = []
ids_in view_node = []
ids_in (list_view_node w) = []
ids_in (list_node w) = []
ids_in (sparse_node ids) = ids
ids_in (dense_node ids) = ids
ids_in (run_end_node w) = []
ids_in (dictionary_node m) = []

union_kind_lem : (b : Bool) (ids : List ℕ) → (is_union_kind (union_kind b ids) ≡ true) × (ids_in (union_kind b ids) ≡ ids)
unfolding is_union_kind ids_in
union_kind_lem true ids = (refl, refl)
union_kind_lem false ids = (refl, refl)

module _ (formats schema : List ℕ) (first : ℕ) where
  -- a union has a child for each id, and no dictionary
  union_facts : (i : ℕ) (b : Bool) (ids : List ℕ) → kind_at formats schema first i ≡ union_kind b ids → Shaped formats schema first i
      → (below schema first i ≡ length ids) × (dictionary schema first i ≡ 0)
  unfolding is_union_kind ids_in
  union_facts i b ids k (of_plain_lem (fixed m) e z d) = absurd (false≢true (sym (ap is_union_kind e) ∙ ap is_union_kind k ∙ (union_kind_lem b ids).0))
  union_facts i b ids k (of_plain_lem (string v) e z d) = absurd (false≢true (sym (ap is_union_kind e) ∙ ap is_union_kind k ∙ (union_kind_lem b ids).0))
  union_facts i b ids k (of_view e z) = absurd (false≢true (sym (ap is_union_kind e) ∙ ap is_union_kind k ∙ (union_kind_lem b ids).0))
  union_facts i b ids k (of_list v e z d) = absurd (false≢true (sym (ap is_union_kind e) ∙ ap is_union_kind k ∙ (union_kind_lem b ids).0))
  union_facts i b ids k (of_lists_lem v e z d) = absurd (false≢true (sym (ap is_union_kind e) ∙ ap is_union_kind k ∙ (union_kind_lem b ids).0))
  union_facts i b ids k (of_sparse js e z d o) = (z ∙ ap length (sym (ap ids_in e) ∙ ap ids_in k ∙ (union_kind_lem b ids).1), eqb-true _ _ o)
  union_facts i b ids k (of_dense js e z d o) = (z ∙ ap length (sym (ap ids_in e) ∙ ap ids_in k ∙ (union_kind_lem b ids).1), eqb-true _ _ o)
  union_facts i b ids k (of_run_lem m e z e1 z1 d) = absurd (false≢true (sym (ap is_union_kind e) ∙ ap is_union_kind k ∙ (union_kind_lem b ids).0))
  union_facts i b ids k (of_dictionary m p e z e1 z1 g d) = absurd (false≢true (sym (ap is_union_kind e) ∙ ap is_union_kind k ∙ (union_kind_lem b ids).0))

-- a list or a list-view is no union
pub view_no_union : (w : ℕ) (b : Bool) (ids : List ℕ) → list_view_node w ≡ union_kind b ids → ⊥
unfolding is_union_kind
view_no_union w b ids e = false≢true (ap is_union_kind e ∙ (union_kind_lem b ids).0)

pub list_no_union : (w : ℕ) (b : Bool) (ids : List ℕ) → list_node w ≡ union_kind b ids → ⊥
unfolding is_union_kind
list_no_union w b ids e = false≢true (ap is_union_kind e ∙ (union_kind_lem b ids).0)

-- .. and has one child
one_below : (formats schema : List ℕ) (first i : ℕ) → is_list_kind (kind_at formats schema first i) ≡ true → Shaped formats schema first i → below schema first i ≡ 1
unfolding is_list_kind
one_below formats schema first i k (of_plain_lem (fixed m) e z d) = absurd (false≢true (sym (ap is_list_kind e) ∙ k))
one_below formats schema first i k (of_plain_lem (string v) e z d) = absurd (false≢true (sym (ap is_list_kind e) ∙ k))
one_below formats schema first i k (of_view e z) = absurd (false≢true (sym (ap is_list_kind e) ∙ k))
one_below formats schema first i k (of_list v e z d) = z
one_below formats schema first i k (of_lists_lem v e z d) = z
one_below formats schema first i k (of_sparse js e z d o) = absurd (false≢true (sym (ap is_list_kind e) ∙ k))
one_below formats schema first i k (of_dense js e z d o) = absurd (false≢true (sym (ap is_list_kind e) ∙ k))
one_below formats schema first i k (of_run_lem m e z e1 z1 d) = absurd (false≢true (sym (ap is_list_kind e) ∙ k))
one_below formats schema first i k (of_dictionary m p e z e1 z1 g d) = absurd (false≢true (sym (ap is_list_kind e) ∙ k))

pub list_below : (formats schema : List ℕ) (first i w : ℕ) → kind_at formats schema first i ≡ list_node w → Shaped formats schema first i → below schema first i ≡ 1
unfolding is_list_kind
list_below formats schema first i w k s = one_below formats schema first i (ap is_list_kind k) s

pub view_below : (formats schema : List ℕ) (first i w : ℕ) → kind_at formats schema first i ≡ list_view_node w → Shaped formats schema first i → below schema first i ≡ 1
unfolding is_list_kind
view_below formats schema first i w k s = one_below formats schema first i (ap is_list_kind k) s

third : (a b c : Bool) → a || b || c ≡ true → a ≡ false → b ≡ false → c ≡ true
third true b c h x y = absurd (false≢true (sym x))
third false true c h x y = absurd (false≢true (sym y))
third false false c h x y = h

-- ---- the two trees

module _ (formats schema : List ℕ) (target first m : ℕ) (t : typed formats schema target (suc m) ≡ true) (some : 1 ≤ m) (one : below schema target 0 ≡ 1)
    (same : same_type formats schema (suc target) m (suc first) m ≡ true) where
  agree : (i : ℕ) → i < m → same_node formats schema (suc target) (suc first) i ≡ true
  agree = same_node_lem formats schema (suc target) m (suc first) m same

  below_whole : whole schema (suc target) m ≡ true
  below_whole = whole_past schema target m some one (typed_whole formats schema target (suc m) t)

  shaped_below : (i : ℕ) → i < m → Shaped formats schema (suc target) i
  shaped_below i l = shaped formats schema (suc target) i (shape_past formats schema target i ∙ typed_shape formats schema target (suc m) t (suc i) (omega arith))

  kinds_same : (i : ℕ) → i < m → kind_at formats schema target (suc i) ≡ kind_at formats schema first (suc i)
  kinds_same i l =
      sym (kind_past formats schema target i) ∙ kind_same formats schema (suc target) (suc first) m agree below_whole i l (shaped_below i l) ∙ kind_past formats schema first i

  no_more : (f i : ℕ) → m < i → end_of schema f m i ≡ i
  unfolding end_of end_from
  no_more f i l = let e : m - i ≡ 0 = omega arith in rw e refl

  ends_same : (i : ℕ) → end_of schema target (suc m) (suc i) ≡ end_of schema first (suc m) (suc i)
  ends_same i = ends_past schema target m i ∙ ap suc (go (dec_lt m i)) ∙ sym (ends_past schema first m i)
    where
      go : Dec (m < i) → end_of schema (suc target) m i ≡ end_of schema (suc first) m i
      go (yes l) = no_more (suc target) i l ∙ sym (no_more (suc first) i l)
      go (no l) = end_same formats schema (suc target) (suc first) m agree i (omega arith)

  -- the children of a node below the root
  child_past : (i j : ℕ) → child_node (tree_of formats schema target (suc m)) (suc i) j ≡ suc (child_at schema (suc target) m i j)
  unfolding child_at
  child_past i zero = refl
  child_past i (suc j) = ap (end_of schema target (suc m)) (child_past i j) ∙ ends_past schema target m (child_at schema (suc target) m i j)

  -- flags of a union's children
  flags_same : (i j : ℕ) → i < m → j < below schema (suc target) i → dictionary schema (suc target) i ≡ 0
      → trees.nullable schema target (suc (child_at schema (suc target) m i j)) ≡ trees.nullable schema first (suc (child_at schema (suc target) m i j))
  unfolding same_node same_flag
  flags_same i j l h d =
      let k = child_at schema (suc target) m i j in
      let c = child_inside schema (suc target) m below_whole i j l h in
      let p = both (trees.same_formats formats schema (suc target) (suc first) k && eqb (trees.children schema (suc target) k) (trees.children schema (suc first) k) && eqb (dictionary schema (suc target) k) (dictionary schema (suc first) k)) (same_flag schema (suc target) (suc first) k) (agree k c) in
      let e = third (eqb k 0) (is_values schema (suc target) k) (eqb (flag schema (suc target) k) (flag schema (suc first) k)) p.1 (ne_eqb k 0 (λ z. omega (arith, z, up i j l))) (values_no schema (suc target) m below_whole i j l h d) in
      ap (λ z. eqb z 1) (flag_past target k ∙ eqb-true _ _ e ∙ sym (flag_past first k))
    where
      flag_past : (f k : ℕ) → flag schema f (suc k) ≡ flag schema (suc f) k
      flag_past f k = rw (past schema f k)

      up : (i j : ℕ) → i < m → 0 < child_at schema (suc target) m i j
      up i j l = omega (arith, child_is schema (suc target) m i l j, end_up schema (suc target) (m - suc i) j (suc i))

  -- THE TREES AGREE BELOW THEIR ROOTS
  pub alike : Alike (tree_of formats schema target (suc m)) (tree_of formats schema first (suc m))
  alike = record { counters = refl; kinds = kinds_at; ends = ends_at; flags = flags_at; later = later_at }
    where
      kinds_at : (i : ℕ) → 0 < i → i < suc m → kind_at formats schema target i ≡ kind_at formats schema first i
      kinds_at zero l h = absurd (omega arith)
      kinds_at (suc i) l h = kinds_same i (omega arith)

      ends_at : (i : ℕ) → 0 < i → end_of schema target (suc m) i ≡ end_of schema first (suc m) i
      ends_at zero l = absurd (omega arith)
      ends_at (suc i) l = ends_same i

      later_at : (i j : ℕ) → 0 < i → 0 < child_node (tree_of formats schema target (suc m)) i j
      later_at zero j l = absurd (omega arith)
      later_at (suc i) j l = subst (λ k. 0 < k) (sym (child_past i j)) (omega arith)

      flags_at : (i : ℕ) (b : Bool) (ids : List ℕ) → 0 < i → Is (tree_of formats schema target (suc m)) i (union_kind b ids) → (c : ℕ) → Memᴰ c ids
          → trees.nullable schema target (node_of (tree_of formats schema target (suc m)) i ids c) ≡ trees.nullable schema first (node_of (tree_of formats schema target (suc m)) i ids c)
      flags_at zero b ids l h c q = absurd (omega arith)
      flags_at (suc i) b ids l h c q =
          let low : i < m = omega (arith, h.0) in
          let u = union_facts formats schema (suc target) i b ids (kind_past formats schema target i ∙ h.1) (shaped_below i low) in
          subst (λ k. trees.nullable schema target k ≡ trees.nullable schema first k) (sym (child_past i (field_of ids c)))
          (flags_same i (field_of ids c) low (omega (arith, u.0, field_in_lem ids c q)) u.1)
