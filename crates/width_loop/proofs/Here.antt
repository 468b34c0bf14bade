-- What an accepted column and a target that passes say of node i, by the code of its format. Assumes nothing.
use mathlib.Core.Path.{◌≡◌, refl, sym, ap, subst, ◌∙◌}
use mathlib.Core.Bool.{Bool, true, false, ◌&&◌}
use mathlib.Core.Option.{some}
use mathlib.Core.List.{List}
use Prim.Native.Nat.{ℕ, suc, ◌+◌, ◌<◌, ◌≤◌, ◌^◌}
use native.Mathlib.Omega.{arith}
use lib.ListN.{length}
use lib.Dec.{leb, eqb}
use lib.Ieee.Bits.{is_true}
use borrow.Author.Tests.{le-leb, ltb-true, ne_eqb}
use Rattle.columnar.specs.Types.{Number, width}
use Rattle.columnar.specs.Formed.{Ids, RunWidth}
use Rattle.columnar.proofs.Test.{every_out}
use Rattle.schema.specs.formats.Code.{is_integer, is_fixed, is_string, is_view, is_list_view, is_list, is_run_end, width_of}
use Rattle.schema.specs.formats.Types.{number_of, number_or}
use Rattle.schema.proofs.formats.Types.{number_width, fixed_number}
use Rattle.schema.specs.Tree.{dictionary, below, child_at, code_of, shape, typed}
use Rattle.schema.proofs.Known.{typed_shape, typed_whole, within_nodes}
use Rattle.schema.proofs.Trees.{child_inside}
use Rattle.array_data.specs.Tables.{Tables, length_of, offset_of, valid_of}
use Rattle.array_data.specs.NodeKinds.{NodeKind, fixed_node, string_node, view_node, list_view_node, list_node, sparse_node, dense_node, run_end_node, dictionary_node, kind_at}
use Rattle.array_data.specs.Typed.{Tree, node_of, kind_rule, node_rule}
use Rattle.array_data.specs.entries.Entries.{column}
use Rattle.array_data.specs.type_tree.Lent.{tree_of}
use Rattle.array_data.proofs.type_tree.Ids.{both}
use Rattle.array_data.proofs.type_tree.Shaped.{at_fixed, at_keys, at_string, at_view, at_list, at_lists, at_run, shaped}
use Rattle.array_data.proofs.type_tree.Lent.{first_child, second_child}
use Rattle.source_rules.specs.kinds.Rows.{tables_of}
use Rattle.source_rules.proofs.Node.{runs}
use Rattle.columns.specs.Grounds.{count_fits, few_buffers, node_fits}
use Rattle.plan.proofs.dictionaries.Laws.{length_from, offset_from}
use Rattle.walk.specs.Log.{Did}
use Rattle.width_walks.specs.target_rules.Target.{Target}
use Rattle.width_walks.proofs.target_rules.Codes.{range, Near, the_same, texts, lists, listings, integers, near, string_kept, list_kept, plain_list_kept, run_kept}
use Rattle.width_walks.proofs.target_rules.Inverse.{ReadsAs, reads_at}
use Rattle.width_walks.proofs.target_rules.Rules.{target_is}
use Rattle.width_walks.specs.Nodes.{own_as, settle_as}
use Rattle.width_walks.proofs.Lent.{typed_here, low_here, rule_here, fits_at}
use Rattle.width_walks.proofs.Placed.{BelowAs, below_of_lem}
use Rattle.width_loop.specs.Here.{Accepted, own_here, settled_here}
use Rattle.width_loop.proofs.Rules.{Bits, fixed_bits, string_bits, view_bits, list_view_bits, list_bits, sparse_bits, dense_bits, run_bits, key_bits}
use Rattle.array_data.proofs.Names.{union_kind}

-- keys and numbers stay fixed-width
fixed_kept : (c d : ℕ) → Near c d → is_fixed c ≡ true → is_fixed d ≡ true
fixed_kept c d (the_same e) h = subst (λ z. is_fixed z ≡ true) e h
fixed_kept c d (texts p q) h = absurd (omega (arith, p.0, (range 1 10 c h).1))
fixed_kept c d (lists p q) h = absurd (omega (arith, p.0, (range 1 10 c h).1))
fixed_kept c d (listings p q) h = absurd (omega (arith, p.0, (range 1 10 c h).1))
fixed_kept c d (integers p q) h = between_is
  where
    two : {a b : Bool} → a ≡ true → b ≡ true → a && b ≡ true
    two {a} {b} e f = ap (λ x. x && b) e ∙ f

    between_is : leb 1 d && leb d 10 ≡ true
    between_is = two (le-leb 1 d q.0) (le-leb d 10 (omega (arith, q.1)))

some_number : (c : ℕ) → is_fixed c ≡ true → number_of c ≡ some (number_or (number_of c))
some_number c h = let p = fixed_number c h in p.1 ∙ ap (λ o. some (number_or o)) (sym p.1)

-- the width of a number's format
pub number_wide : (c : ℕ) → is_fixed c ≡ true → width (number_or (number_of c)) ≡ width_of c
number_wide c h = number_width c (number_or (number_of c)) (some_number c h)

module _ (formats schema lengths places body : List ℕ) (first n target : ℕ) (a : Accepted formats schema lengths places body first n target) where
  abbrev x : Tables
  x = column lengths places a.buffers body first

  abbrev tree : Tree
  tree = tree_of formats schema first n

  is_typed : typed formats schema first n ≡ true
  is_typed = typed_here formats schema (tables_of lengths places a.buffers body) first n a.column_good

  to : Target formats schema first n target n
  to = target_is formats schema first n target n a.target_good

  pub few : n ≤ 32
  few = within_nodes formats schema first n (low_here formats schema (tables_of lengths places a.buffers body) first n a.column_good)

  module _ (i : ℕ) (l : i < n) where
    abbrev code : ℕ
    code = code_of formats schema first i

    abbrev code2 : ℕ
    code2 = code_of formats schema target i

    pub shape_here : shape formats schema first i ≡ true
    shape_here = typed_shape formats schema first n is_typed i l

    rule_at : node_rule tree x i ≡ true
    rule_at = is_true (node_rule tree x i) (every_out (node_rule tree x) n (rule_here formats schema (tables_of lengths places a.buffers body) first n a.column_good) i l)

    pub rule_as : (k : NodeKind) → kind_at formats schema first i ≡ k → kind_rule tree x k i ≡ true
    rule_as k e = subst (λ z. kind_rule tree x z i ≡ true) e rule_at

    below_as : (k : NodeKind) → kind_at formats schema first i ≡ k → BelowAs formats schema first i k
    below_as k e = subst (BelowAs formats schema first i) e (below_of_lem formats schema first i (shaped formats schema first i shape_here))

    -- "their sum at most 2^63−1"
    pub sum_here : offset_of x i + length_of x i < 2 ^ 63
    unfolding node_fits count_fits
    sum_here =
        let y = tables_of lengths places a.buffers body in
        let h = ltb-true (offset_of y (first + i) + length_of y (first + i)) (2 ^ 63) (both (count_fits y (first + i)) (few_buffers formats schema y first i) (fits_at formats schema y first n a.column_good i l)).0 in
        omega (arith, h, length_from y first i, offset_from y first i)

    codes_near : Near code code2
    codes_near = near (to.nodes i l).code_widths

    -- ---- kinds

    pub string_kinds : is_string code ≡ true → (kind_at formats schema first i ≡ string_node (width_of code)) × (kind_at formats schema target i ≡ string_node (width_of code2)) × (is_string code2 ≡ true)
    string_kinds h = let g = string_kept code code2 codes_near h in (at_string formats schema first i h, at_string formats schema target i g, g)

    pub view_kinds : is_view code ≡ true → kind_at formats schema first i ≡ view_node
    view_kinds h = at_view formats schema first i h

    pub list_view_kinds : is_list_view code ≡ true → (kind_at formats schema first i ≡ list_view_node (width_of code)) × (kind_at formats schema target i ≡ list_view_node (width_of code2)) × (is_list_view code2 ≡ true)
    list_view_kinds h = let g = list_kept code code2 codes_near h in (at_list formats schema first i h, at_list formats schema target i g, g)

    pub list_kinds : is_list code ≡ true → (kind_at formats schema first i ≡ list_node (width_of code)) × (kind_at formats schema target i ≡ list_node (width_of code2)) × (is_list code2 ≡ true)
    list_kinds h = let g = plain_list_kept code code2 codes_near h in (at_lists formats schema first i h, at_lists formats schema target i g, g)

    pub fixed_kinds : is_fixed code ≡ true → dictionary schema first i ≡ 0 → kind_at formats schema first i ≡ fixed_node (number_or (number_of code))
    fixed_kinds h d = at_fixed formats schema first i h (ap (λ z. eqb z 0) d)

    pub key_kinds : is_fixed code ≡ true → (dictionary schema first i ≡ 0 → ⊥)
        → (kind_at formats schema first i ≡ dictionary_node (number_or (number_of code))) × (kind_at formats schema target i ≡ dictionary_node (number_or (number_of code2))) × (is_integer code2 ≡ true) × (number_of code2 ≡ some (number_or (number_of code2)))
    key_kinds h d =
        let g = fixed_kept code code2 codes_near h in
        let d2 : dictionary schema target i ≡ 0 → ⊥ = λ e. d ((to.nodes i l).same_dictionary ∙ e) in
        let k2 = at_keys formats schema target i g (ne_eqb (dictionary schema target i) 0 d2) in
        let r : ReadsAs formats schema target i (dictionary_node (number_or (number_of code2))) = subst (ReadsAs formats schema target i) k2 (reads_at formats schema target i (typed_shape formats schema target n to.of_type i l)) in
        (at_keys formats schema first i h (ne_eqb (dictionary schema first i) 0 d), k2, r.0, some_number code2 g)

    -- ---- the nodes below

    next_node : below schema first i ≡ 1 → suc i < n
    next_node b = subst (λ k. k < n) (first_child formats schema first n i) (child_inside schema first n (typed_whole formats schema first n is_typed) i 0 l (omega (arith, b)))

    pub list_below : (w : ℕ) → kind_at formats schema first i ≡ list_node w → suc i < n
    list_below w e = next_node (below_as (list_node w) e)

    pub list_view_below : (w : ℕ) → kind_at formats schema first i ≡ list_view_node w → suc i < n
    list_view_below w e = next_node (below_as (list_view_node w) e)

    pub key_below : (m : Number) → kind_at formats schema first i ≡ dictionary_node m → suc i < n
    key_below m e = next_node (below_as (dictionary_node m) e).0

    pub fields_ids : (b : Bool) (ids : List ℕ) → kind_at formats schema first i ≡ union_kind b ids → Ids ids
    fields_ids true ids e = (below_as (sparse_node ids) e).1
    fields_ids false ids e = (below_as (dense_node ids) e).1

    pub fields_below : (b : Bool) (ids : List ℕ) → kind_at formats schema first i ≡ union_kind b ids → (below schema first i ≡ length ids) × ((j : ℕ) → j < length ids → child_at schema first n i j < 32)
    fields_below true ids e =
        let b = (below_as (sparse_node ids) e).0 in
        (b, λ j q. omega (arith, few, child_inside schema first n (typed_whole formats schema first n is_typed) i j l (omega (arith, b))))
    fields_below false ids e =
        let b = (below_as (dense_node ids) e).0 in
        (b, λ j q. omega (arith, few, child_inside schema first n (typed_whole formats schema first n is_typed) i j l (omega (arith, b))))

    pub run_kinds : is_run_end code ≡ true
        → (kind_at formats schema first i ≡ run_end_node (width_of (code_of formats schema first (suc i)))) × (kind_at formats schema target i ≡ run_end_node (width_of (code_of formats schema target (suc i))))
        × RunWidth (width_of (code_of formats schema first (suc i))) × RunWidth (width_of (code_of formats schema target (suc i)))
    run_kinds h =
        let g = run_kept code code2 codes_near h in
        (at_run formats schema first i h, at_run formats schema target i g, (runs formats schema first i shape_here h).ends_width, (runs formats schema target i (typed_shape formats schema target n to.of_type i l) g).ends_width)

    pub run_below : (w : ℕ) → kind_at formats schema first i ≡ run_end_node w → (suc i < n) × (suc (suc i) < n) × ((m : Number) × (kind_at formats schema first (suc i) ≡ fixed_node m))
    run_below w e =
        let b = below_as (run_end_node w) e in
        let q : suc i < n = subst (λ k. k < n) (first_child formats schema first n i) (child_inside schema first n (typed_whole formats schema first n is_typed) i 0 l (omega (arith, b.0))) in
        let r : suc (suc i) < n = subst (λ k. k < n) (second_child formats schema first n i q b.1) (child_inside schema first n (typed_whole formats schema first n is_typed) i 1 l (omega (arith, b.0))) in
        (q, r, b.2)

    -- the bits of every node
    pub bits_here : Bits x i
    bits_here = go (kind_at formats schema first i) refl
      where
        go : (k : NodeKind) → kind_at formats schema first i ≡ k → Bits x i
        go (fixed_node m) e = fixed_bits x i m (rule_as (fixed_node m) e)
        go (string_node w) e = string_bits x i w (rule_as (string_node w) e)
        go view_node e = view_bits x i (rule_as view_node e)
        go (list_view_node w) e = list_view_bits x i w (rule_as (list_view_node w) e)
        go (list_node w) e = list_bits x i w (rule_as (list_node w) e)
        go (sparse_node ids) e = sparse_bits x i ids (node_of tree i ids) (rule_as (sparse_node ids) e)
        go (dense_node ids) e = dense_bits x i ids (node_of tree i ids) (rule_as (dense_node ids) e)
        go (run_end_node w) e = run_bits x i w (rule_as (run_end_node w) e)
        go (dictionary_node m) e = key_bits x i m (rule_as (dictionary_node m) e)

-- ---- what a node does, by its kinds

module _ (formats schema lengths places buffers body plan : List ℕ) (first n target i s m : ℕ) where
  pub by_kinds : (parts : List ℕ) (write : Bool) (room c : List ℕ) {k k2 : NodeKind} {g : ℕ} {c2 room2 : List ℕ} → kind_at formats schema first i ≡ k → kind_at formats schema target i ≡ k2
      → Did plan parts write (own_as (tree_of formats schema first n) (tree_of formats schema target n) (column lengths places buffers body first) plan k k2 i (Rattle.columnar.specs.Array.ok (valid_of (column lengths places buffers body first) i)) s m c) room g c2 room2
      → Did plan parts write (own_here formats schema lengths places buffers body plan first n target i s m c) room g c2 room2
  by_kinds parts write room c {k} {k2} {g} {c2} {room2} e f d =
      subst (λ y. Did plan parts write (own_as (tree_of formats schema first n) (tree_of formats schema target n) (column lengths places buffers body first) plan y (kind_at formats schema target i) i (Rattle.columnar.specs.Array.ok (valid_of (column lengths places buffers body first) i)) s m c) room g c2 room2) (sym e)
      (subst (λ y. Did plan parts write (own_as (tree_of formats schema first n) (tree_of formats schema target n) (column lengths places buffers body first) plan k y i (Rattle.columnar.specs.Array.ok (valid_of (column lengths places buffers body first) i)) s m c) room g c2 room2) (sym f) d)

  pub settled_by : (rs : List ℕ) {k : NodeKind} {out : List ℕ} → kind_at formats schema first i ≡ k
      → out ≡ settle_as (tree_of formats schema first n) (tree_of formats schema target n) (column lengths places buffers body first) plan k i s m rs → out ≡ settled_here formats schema lengths places buffers body plan first n target i s m rs
  settled_by rs {k} {out} e h =
      subst (λ y. out ≡ settle_as (tree_of formats schema first n) (tree_of formats schema target n) (column lengths places buffers body first) plan y i s m rs) (sym e) h
