-- What A plan that has a tree's words says of each node, and the children of its unions. Assumes nothing.
use mathlib.Core.Path.{◌≡◌, refl, ap, sym, subst, ◌∙◌}
use mathlib.Core.Bool.{Bool, true, false, not, cond, ◌||◌, false≢true}
use mathlib.Core.List.{List, [], ◌∷◌, Memᴰ}
use Prim.Native.Nat.{ℕ, zero, suc, ◌+◌, ◌%◌, ◌≤◌, ◌<◌}
use native.Mathlib.Omega.{arith}
use lib.ListN.{length}
use lib.Dec.{leb, eqb}
use borrow.Author.Tests.{leb-true, lt-ltb, eqb-true, eqb-false, eq-eqb, ne_eqb}
use Rattle.columnar.specs.Types.{fixed, string}
use Rattle.columnar.specs.Formed.{Ids}
use Rattle.schema.specs.formats.Code.{is_union}
use Rattle.schema.specs.Tree.{flag, children, dictionary, below, end_of, child_at, whole, code_of, ids_of, few_fields, ceilings, typed}
use Rattle.schema.proofs.Trees.{child_inside, children_end, end_after, end_inside}
use Rattle.schema.proofs.Depth.{nested, child_before}
use Rattle.schema.proofs.Known.{typed_whole, typed_shape, within_nodes, within_fields}
use Rattle.array_data.specs.NodeKinds.{NodeKind, fixed_node, string_node, view_node, list_view_node, list_node, sparse_node, dense_node, run_end_node, dictionary_node, kind_at}
use Rattle.array_data.specs.Typed.{field_of, node_of, nullable_in}
use Rattle.array_data.specs.type_tree.Lent.{tree_of}
use Rattle.array_data.proofs.type_tree.Ids.{cond_yes, cond_no, field_in_lem}
use Rattle.array_data.proofs.type_tree.Shaped.{Shaped, of_plain_lem, of_view, of_list, of_lists_lem, of_sparse, of_dense, of_run_lem, of_dictionary, shaped}
use Rattle.array_data.proofs.type_tree.Lent.{child_same, first_child}
use Rattle.array_data.proofs.node_words.Laws.{zeroth, first_word, second_word, third_word, fourth_word}
use Rattle.walk.specs.State.{word, dictionary_of, id_of, nullable_of}
use Rattle.walk.specs.Copy.{child_with}
use Rattle.refinement.specs.walk_is_model.Holds.{child_of, Fields}
use Rattle.refinement.specs.plan_is_type.Planted.{Planted}
use Rattle.refinement.proofs.plan_is_type.Codes.{Coded, small_code, shape_admitted, code_of_lem, union_ids, union_code}
use Rattle.refinement.proofs.plan_is_type.Children.{behind_first, rise, child_id_lem}
use Rattle.array_data.proofs.Names.{union_kind}
use Rattle.array_data.specs.node_words.Words.{child_id}

small_ids : (ids : List ℕ) → Ids ids → (c : ℕ) → Memᴰ c ids → c < 128
small_ids (d ∷ ds) h c (Memᴰ.head e) = omega (arith, h.0)
small_ids (d ∷ ds) h c (Memᴰ.tail q) = small_ids ds h.2 c q
small_ids [] h c x'' = elim x'' [ ]

implied : (a b : Bool) → not a || b ≡ true → a ≡ true → b ≡ true
implied true b h e = h
implied false b h e = absurd (false≢true e)

module _ (formats schema : List ℕ) (first i : ℕ) where
  -- what stands below a union
  abbrev Union : NodeKind → Type 0
  Union (fixed_node m) = Unit {0}
  Union (string_node w) = Unit {0}
  Union view_node = Unit {0}
  Union (list_view_node w) = Unit {0}
  Union (list_node w) = Unit {0}
  Union (sparse_node ids) = (below schema first i ≡ length ids) × Ids ids × (dictionary schema first i ≡ 0)
  Union (dense_node ids) = (below schema first i ≡ length ids) × Ids ids × (dictionary schema first i ≡ 0)
  Union (run_end_node w) = Unit {0}
  Union (dictionary_node m) = Unit {0}

  union_of : Shaped formats schema first i → Union (kind_at formats schema first i)
  union_of (of_plain_lem (fixed m) e z d) = subst Union (sym e) tt
  union_of (of_plain_lem (string v) e z d) = subst Union (sym e) tt
  union_of (of_view e z) = subst Union (sym e) tt
  union_of (of_list v e z d) = subst Union (sym e) tt
  union_of (of_lists_lem v e z d) = subst Union (sym e) tt
  union_of (of_sparse ids e z d o) = subst Union (sym e) (z, d, eqb-true (dictionary schema first i) 0 o)
  union_of (of_dense ids e z d o) = subst Union (sym e) (z, d, eqb-true (dictionary schema first i) 0 o)
  union_of (of_run_lem m e z e1 z1 d) = subst Union (sym e) tt
  union_of (of_dictionary m p e z e1 z1 g d) = subst Union (sym e) tt

  either_union : (b : Bool) (ids : List ℕ) → Union (union_kind b ids) → (below schema first i ≡ length ids) × Ids ids × (dictionary schema first i ≡ 0)
  either_union true ids h = h
  either_union false ids h = h

module _ (formats schema : List ℕ) (first n : ℕ) (plan : List ℕ)
    (t : typed formats schema first n ≡ true) (c : ceilings formats schema first n ≡ true) (p : Planted plan formats schema first n) where
  abbrev at : ℕ → ℕ → ℕ
  at i j = child_at schema first n i j

  pub whole_tree : whole schema first n ≡ true
  whole_tree = typed_whole formats schema first n t

  pub in_plan_lem : (i : ℕ) → i < n → i < 32
  in_plan_lem i l = omega (arith, within_nodes formats schema first n c)

  -- ---- the words of node i

  module _ (i : ℕ) (l : i < n) where
    pub code_is : Rattle.walk.specs.State.code_of plan i ≡ code_of formats schema first i
    code_is =
        let e : word plan i 0 ≡ code_of formats schema first i = p i 0 (in_plan_lem i l) (omega arith) ∙ zeroth formats schema first n i 0 l refl in
        omega (arith, small_code (code_of formats schema first i) (shape_admitted formats schema first i (typed_shape formats schema first n t i l)))

    pub dictionary_is : dictionary_of plan i ≡ dictionary schema first i
    dictionary_is = p i 1 (in_plan_lem i l) (omega arith) ∙ first_word formats schema first n i 1 l refl

    pub end_is : Rattle.walk.specs.State.end_of plan i ≡ end_of schema first n i
    end_is =
        let e : word plan i 2 ≡ end_of schema first n i = p i 2 (in_plan_lem i l) (omega arith) ∙ second_word formats schema first n i 2 l refl in
        omega (arith, end_inside schema first n i (omega arith), within_nodes formats schema first n c)

    id_is : id_of plan i ≡ child_id formats schema first n i % 256
    id_is = ap (λ z. z % 256) (p i 3 (in_plan_lem i l) (omega arith) ∙ third_word formats schema first n i 3 l refl)

    pub nullable_is : nullable_of plan i ≡ flag schema first i
    nullable_is = p i 4 (in_plan_lem i l) (omega arith) ∙ fourth_word formats schema first n i 4 l refl

    -- what its code says of its kind
    pub coded_is : Coded (code_of formats schema first i) (eqb (dictionary schema first i) 0) (ids_of formats schema first i) (code_of formats schema first (suc i)) (kind_at formats schema first i)
    coded_is = code_of_lem formats schema first i (typed_shape formats schema first n t i l)

  -- ---- a union

  module _ (i : ℕ) (l : i < n) (b : Bool) (ids : List ℕ) (k : kind_at formats schema first i ≡ union_kind b ids) where
    parts : (below schema first i ≡ length ids) × Ids ids × (dictionary schema first i ≡ 0)
    parts = either_union formats schema first i b ids (subst (Union formats schema first i) k (union_of formats schema first i (shaped formats schema first i (typed_shape formats schema first n t i l))))

    union_coded : Coded (code_of formats schema first i) (eqb (dictionary schema first i) 0) (ids_of formats schema first i) (code_of formats schema first (suc i)) (union_kind b ids)
    union_coded = subst (Coded (code_of formats schema first i) (eqb (dictionary schema first i) 0) (ids_of formats schema first i) (code_of formats schema first (suc i))) k (coded_is i l)

    -- the child that has an id
    child_in : (e : ℕ) → Memᴰ e ids → at i (field_of ids e) < n
    child_in e q = child_inside schema first n whole_tree i (field_of ids e) l (omega (arith, parts.0, field_in_lem ids e q))

    child_has : (e : ℕ) → Memᴰ e ids → id_of plan (at i (field_of ids e)) ≡ e
    child_has e q =
        let o = union_ids (code_of formats schema first i) (eqb (dictionary schema first i) 0) (ids_of formats schema first i) (code_of formats schema first (suc i)) b ids union_coded in
        let d = child_id_lem schema first n whole_tree i l formats ids o parts.0 e q in
        let s = small_ids ids parts.1 e q in
        id_is (at i (field_of ids e)) (child_in e q) ∙ ap (λ z. z % 256) d ∙ omega arith

    -- a child for each id
    pub union_below : below schema first i ≡ length ids
    union_below = parts.0

    -- at most 16 fields
    pub few_ids : length ids ≤ 16
    unfolding few_fields below
    few_ids =
        let u = union_code (code_of formats schema first i) (eqb (dictionary schema first i) 0) (ids_of formats schema first i) (code_of formats schema first (suc i)) b ids union_coded in
        let f = leb-true (children schema first i) 16 (implied (is_union (code_of formats schema first i)) (leb (children schema first i) 16) (within_fields formats schema first n c i l) u) in
        let z : ◌≡◌ {A = ℕ} (cond (eqb (dictionary schema first i) 0) 0 1) 0 = cond_yes (eqb (dictionary schema first i) 0) 0 1 (eq-eqb (dictionary schema first i) 0 parts.2) in
        omega (arith, parts.0)

    after : (a : ℕ) → a ≤ below schema first i → i < at i a
    unfolding child_at
    after zero h = omega arith
    after (suc a) h = let r : suc i < at i (suc a) = rise schema first n whole_tree i l 0 (suc a) h (omega arith) in omega arith

    -- the fields from child number a on, whose ids are cs
    fields_from : (kid : ℕ → ℕ → Type 0) → ((e : ℕ) → Memᴰ e ids → kid e (at i (field_of ids e))) → (cs : List ℕ) (a : ℕ) → a + length cs ≡ below schema first i → Ids cs
        → ((e : ℕ) → Memᴰ e cs → Memᴰ e ids × (field_of ids e ≡ a + field_of cs e))
        → Fields plan kid (λ e. nullable_in (tree_of formats schema first n) (node_of (tree_of formats schema first n) i ids e)) (Rattle.walk.specs.State.end_of plan i) cs (at i a)
    unfolding child_at
    fields_from kid g [] a z d f =
        let e : a ≡ below schema first i = omega arith in
        ap (at i) e ∙ children_end schema first n i l ∙ sym (end_is i l)
    fields_from kid g (e ∷ es) a z d f =
        let h = f e (Memᴰ.head refl) in
        let o : field_of (e ∷ es) e ≡ 0 = cond_yes (eqb e e) 0 (suc (field_of es e)) (eq-eqb e e refl) in
        let j : field_of ids e ≡ a = omega (arith, h.1) in
        let m = ap (at i) j in
        let b : a < below schema first i = omega arith in
        let r : at i a < n = child_inside schema first n whole_tree i a l b in
        let y = end_is (at i a) r in (
          subst (λ z. id_of plan z ≡ e) m (child_has e h.0),
          ap (λ z. eqb z 1) (nullable_is (at i a) r) ∙ ap (λ z. eqb (flag schema first z) 1) (sym m ∙ child_same formats schema first n i (field_of ids e)),
          omega (arith, y, end_after schema first n (at i a) r),
          omega (arith, y, end_is i l, nested schema first n (at i a) i (omega (arith, after a (omega arith))) (child_before schema first n whole_tree i a l b)),
          subst (kid e) m (g e h.0),
          subst (Fields plan kid _ (Rattle.walk.specs.State.end_of plan i) es) (sym y)
              (fields_from kid g es (suc a) (omega arith) d.2
              (λ v q. let u = f v (Memᴰ.tail q) in
              let w : field_of (e ∷ es) v ≡ suc (field_of es v) = cond_no (eqb v e) 0 (suc (field_of es v)) (ne_eqb v e (λ x. d.1 (subst (λ z. Memᴰ z es) x q))) in
              (u.0, omega (arith, u.1)))),
        )

    -- THE FIELDS of a union, each where it should be
    pub fields : (kid : ℕ → ℕ → Type 0) → ((e : ℕ) → Memᴰ e ids → kid e (at i (field_of ids e)))
        → Fields plan kid (λ e. nullable_in (tree_of formats schema first n) (node_of (tree_of formats schema first n) i ids e)) (Rattle.walk.specs.State.end_of plan i) ids (suc i)
    fields kid g =
        subst (Fields plan kid _ (Rattle.walk.specs.State.end_of plan i) ids) (first_child formats schema first n i)
        (fields_from kid g ids 0 (omega (arith, parts.0)) parts.1 (λ e q. (q, omega arith)))

    node_from : (e : ℕ) → Memᴰ e ids → (cs : List ℕ) (fuel a : ℕ) → length cs ≤ fuel → a + length cs ≡ below schema first i → Ids cs → Memᴰ e cs
        → ((v : ℕ) → Memᴰ v cs → Memᴰ v ids × (field_of ids v ≡ a + field_of cs v))
        → child_with plan e (Rattle.walk.specs.State.end_of plan i) fuel (at i a) ≡ at i (field_of ids e)
    unfolding child_with child_at
    node_from e q (v ∷ vs) zero a z y d x f = absurd (omega arith)
    node_from e q (v ∷ vs) (suc fuel) a z y d x f =
        let h = f v (Memᴰ.head refl) in
        let o : field_of (v ∷ vs) v ≡ 0 = cond_yes (eqb v v) 0 (suc (field_of vs v)) (eq-eqb v v refl) in
        let j : field_of ids v ≡ a = omega (arith, h.1) in
        let b : a < below schema first i = omega arith in
        let r : at i a < n = child_inside schema first n whole_tree i a l b in
        let here : id_of plan (at i a) ≡ v = subst (λ z. id_of plan z ≡ v) (ap (at i) j) (child_has v h.0) in
        let next = end_is (at i a) r in
        rw (lt-ltb (at i a) (Rattle.walk.specs.State.end_of plan i) (omega (arith, end_is i l, child_before schema first n whole_tree i a l b)), here, next)
        (go (eqb v e) refl j
        (λ m. node_from e q vs fuel (suc a) (omega arith) (omega arith) d.2 m
        (λ g s. let u = f g (Memᴰ.tail s) in
        let k : field_of (v ∷ vs) g ≡ suc (field_of vs g) = cond_no (eqb g v) 0 (suc (field_of vs g)) (ne_eqb g v (λ w. d.1 (subst (λ z. Memᴰ z vs) w s))) in
        (u.0, omega (arith, u.1)))))
      where
        go : (y : Bool) → eqb v e ≡ y → field_of ids v ≡ a → (Memᴰ e vs → child_with plan e (Rattle.walk.specs.State.end_of plan i) fuel (end_of schema first n (at i a)) ≡ at i (field_of ids e))
            → cond y (at i a) (child_with plan e (Rattle.walk.specs.State.end_of plan i) fuel (end_of schema first n (at i a))) ≡ at i (field_of ids e)
        go true w j ih = ap (at i) (sym j ∙ ap (field_of ids) (eqb-true v e w))
        go false w j ih = ih (behind_first e v vs (ne_eqb e v (λ m. eqb-false v e w (sym m))) x)
    node_from e q [] fuel a z y d x f = elim x [ ]

    -- THE CHILD THAT HAS AN ID is that of the tree
    pub child_node_lem : (e : ℕ) → Memᴰ e ids → child_of plan i e ≡ node_of (tree_of formats schema first n) i ids e
    child_node_lem e q =
        ap (child_with plan e (Rattle.walk.specs.State.end_of plan i) 32) (sym (first_child formats schema first n i))
        ∙ node_from e q ids 32 0 (omega (arith, few_ids)) (omega (arith, parts.0)) parts.1 q (λ v m. (m, omega arith))
        ∙ child_same formats schema first n i (field_of ids e)
