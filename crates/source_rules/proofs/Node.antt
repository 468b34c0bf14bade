-- The rule of a node by its code, and what its shape says. Assumes nothing.
use mathlib.Core.Path.{◌≡◌, refl, sym, ap, subst, ◌∙◌}
use mathlib.Core.Bool.{Bool, true, false, ◌&&◌, ◌||◌, false≢true}
use mathlib.Core.List.{List}
use mathlib.Core.Option.{some}
use Prim.Native.Nat.{ℕ, zero, suc, ◌+◌, ◌*◌, ◌<◌, ◌^◌}
use native.Mathlib.Omega.{arith}
use lib.ListN.{get_or}
use lib.Dec.{eqb}
use Rattle.columnar.specs.Types.{Number, width, Plain, fixed, string}
use Rattle.columnar.specs.Test.{every}
use Rattle.columnar.specs.Formed.{OffsetWidth, RunWidth}
use Rattle.schema.specs.formats.Code.{is_integer, is_fixed, is_string, is_view, is_list_view, is_list, is_union, is_run_end, width_of}
use Rattle.schema.specs.formats.Types.{number_of, number_or}
use Rattle.schema.proofs.formats.Types.{number_width, fixed_number}
use Rattle.schema.specs.union_ids.Ids.{answer_of, written}
use Rattle.schema.specs.Tree.{field, children, dictionary, below, bare, child_for_each, end_of, child_at, whole, code_of, ids_of, values_shape, leaf_shape, keys_shape, list_shape, union_shape, run_shape, shape, typed}
use Rattle.schema.proofs.Trees.{child_inside}
use Rattle.schema.proofs.Known.{typed_whole}
use Rattle.array_data.specs.Tables.{Tables}
use Rattle.array_data.specs.Rules.{string_rule, view_rule, list_view_rule, list_rule, sparse_rule, dense_rule, run_end_rule}
use Rattle.array_data.specs.NodeKinds.{NodeKind, fixed_node, string_node, view_node, list_view_node, list_node, sparse_node, dense_node, run_end_node, dictionary_node, kind_at}
use Rattle.array_data.specs.Typed.{node_of, tables_from, kind_rule, node_rule}
use Rattle.array_data.specs.type_tree.Lent.{tree_of}
use Rattle.array_data.proofs.type_tree.Ids.{both}
use Rattle.array_data.proofs.type_tree.Shaped.{later, string_width, list_width, lists_width, integer_fixed, plain_kind, Shaped, of_plain_lem, of_view, of_list, of_lists_lem, of_sparse, of_dense, of_run_lem, of_dictionary, at_fixed, at_keys, at_string, at_view, at_list, at_lists, at_union, at_run, five, shaped}
use Rattle.array_data.proofs.type_tree.Lent.{first_child}
use Rattle.array_data.specs.lent_tables.Lent.{tables, Counted}
use Rattle.source_rules.specs.kinds.Rows.{tables_of}
use Rattle.source_rules.specs.Source.{Ready, number_rule}
use Rattle.source_rules.proofs.From.{fixed_from, string_from, view_from, list_view_from, list_from, sparse_from, dense_from, run_end_from, dictionary_from}
use Rattle.array_data.proofs.Names.{ids_or, union_kind}

-- ---- widths

-- 4, and else 8
pub not_four : {w : ℕ} → OffsetWidth w → (w ≡ 4 → ⊥) → w ≡ 8
not_four OffsetWidth.four h = absurd (h refl)
not_four OffsetWidth.eight h = refl

-- 2, 4, and else 8
pub not_two_four : {w : ℕ} → RunWidth w → (w ≡ 2 → ⊥) → (w ≡ 4 → ⊥) → w ≡ 8
not_two_four RunWidth.two g h = absurd (g refl)
not_two_four RunWidth.four g h = absurd (h refl)
not_two_four RunWidth.eight g h = refl

-- ---- one test and not another

clash : {A : Type 0} {b : Bool} → b ≡ true → b ≡ false → A
clash h g = absurd (false≢true (sym g ∙ h))

either : {A : Type 0} (a b : Bool) → a || b ≡ true → (a ≡ true → A) → (b ≡ true → A) → A
either true b h f g = f refl
either false b h f g = g h

run_not_plain : {v : ℕ} (p : Plain) → run_end_node v ≡ plain_kind p → ⊥
run_not_plain (fixed m) e = let z : ◌≡◌ {A = ℕ} 0 1 = cc in omega arith
run_not_plain (string w) e = let z : ◌≡◌ {A = ℕ} 0 1 = cc in omega arith

-- what a test told of a code c that is d
pub told : (f : ℕ → Bool) {b v : Bool} (c : ℕ) {d : ℕ} → c ≡ d → b ≡ f c → b ≡ v → f d ≡ v
told f c q e h = ap f (sym q) ∙ sym e ∙ h

pub string_widths : (c : ℕ) {w : ℕ} → is_string c ≡ true → w ≡ width_of c → OffsetWidth w
string_widths c h e = subst OffsetWidth (sym e) (string_width c h)

pub list_widths : (c : ℕ) {w : ℕ} → is_list_view c ≡ true → w ≡ width_of c → OffsetWidth w
list_widths c h e = subst OffsetWidth (sym e) (list_width c h)

pub lists_widths : (c : ℕ) {w : ℕ} → is_list c ≡ true → w ≡ width_of c → OffsetWidth w
lists_widths c h e = subst OffsetWidth (sym e) (lists_width c h)

-- ---- one after the other

pub every_true : (p : ℕ → Bool) (n : ℕ) → ((j : ℕ) → j < n → p j ≡ true) → every p n ≡ true
every_true p zero h = refl
every_true p (suc n) h = rw (every_true p n (λ j l. h j (omega arith)), h n (omega arith))

-- ---- only the lengths are counted

pub counted_as : (x y : Tables) (k : ℕ) → x.lengths ≡ y.lengths → Counted x k → Counted y k
counted_as x y k e h = record { small = h.small; sum = subst (λ l. get_or l (2 * k + 1) 0 + get_or l (2 * k) 0 < 2 ^ 63) e h.sum }

pub ready_as : (formats schema : List ℕ) (x y : Tables) (first n : ℕ) → x.lengths ≡ y.lengths → Ready formats schema x first n → Ready formats schema y first n
ready_as formats schema x y first n e h =
    record { few = h.few; low = h.low; is_typed = h.is_typed; counted = λ j l. counted_as x y (first + j) e (h.counted j l) }

-- numbers and keys have no data buffers
pub number_as : (lengths places buffers body : List ℕ) (k : ℕ) (single : Bool) (m : Number)
    → number_rule (tables lengths places body) k single m ≡ number_rule (tables_of lengths places buffers body) k single m
number_as lengths places buffers body k true m = refl
number_as lengths places buffers body k false m = refl

-- ---- the rule of node i by its code

module _ (formats schema : List ℕ) (first n : ℕ) (x : Tables) (i : ℕ) where
  abbrev code : ℕ
  code = code_of formats schema first i

  abbrev pub rule : Bool
  rule = node_rule (tree_of formats schema first n) (tables_from x first) i

  by_kind : (k : NodeKind) → kind_at formats schema first i ≡ k → rule ≡ kind_rule (tree_of formats schema first n) (tables_from x first) k i
  by_kind k e = ap (λ k. kind_rule (tree_of formats schema first n) (tables_from x first) k i) e

  pub number_node_lem : is_fixed code ≡ true → (single : Bool) → eqb (dictionary schema first i) 0 ≡ single
      → (m : Number) → number_of code ≡ some m → rule ≡ number_rule x (first + i) single m
  number_node_lem h true s m e =
      by_kind (fixed_node m) (at_fixed formats schema first i h s ∙ ap (λ o. fixed_node (number_or o)) e) ∙ fixed_from x first i m
  number_node_lem h false s m e =
      by_kind (dictionary_node m) (at_keys formats schema first i h s ∙ ap (λ o. dictionary_node (number_or o)) e) ∙ dictionary_from x first i m

  pub number_last : {r : Bool} {c d : ℕ} → c ≡ code → d ≡ dictionary schema first i → is_fixed c ≡ true
      → ((m : Number) → number_of c ≡ some m → r ≡ number_rule x (first + i) (eqb d 0) m) → r ≡ rule
  number_last {r} {c} {d} e q h g =
      let p = fixed_number c h in
      g p.0 p.1 ∙ sym (number_node_lem (ap is_fixed (sym e) ∙ h) (eqb d 0) (ap (λ k. eqb k 0) (sym q)) p.0 (ap number_of (sym e) ∙ p.1))

  pub string_node_lem : is_string code ≡ true → rule ≡ string_rule x (first + i) (width_of code)
  string_node_lem h = by_kind (string_node (width_of code)) (at_string formats schema first i h) ∙ string_from x first i (width_of code)

  pub view_node_lem : is_view code ≡ true → rule ≡ view_rule x (first + i)
  view_node_lem h = by_kind view_node (at_view formats schema first i h) ∙ view_from x first i

  pub list_view_node_lem : is_list_view code ≡ true → rule ≡ list_view_rule x (first + i) (width_of code)
  list_view_node_lem h = by_kind (list_view_node (width_of code)) (at_list formats schema first i h) ∙ list_view_from x first i (width_of code)

  pub list_node_lem : is_list code ≡ true → rule ≡ list_rule x (first + i) (width_of code)
  list_node_lem h = by_kind (list_node (width_of code)) (at_lists formats schema first i h) ∙ list_from x first i (width_of code)

  pub run_end_node_lem : is_run_end code ≡ true → rule ≡ run_end_rule x (first + i) (width_of (code_of formats schema first (suc i)))
  run_end_node_lem h =
      by_kind (run_end_node (width_of (code_of formats schema first (suc i)))) (at_run formats schema first i h)
      ∙ run_end_from x first i (width_of (code_of formats schema first (suc i)))

  -- the child of an id, as a node of the tables
  abbrev pub child_of_id : List ℕ → ℕ → ℕ
  child_of_id ids c = first + node_of (tree_of formats schema first n) i ids c

  pub sparse_node_lem : is_union code ≡ true → eqb code 21 ≡ true → (ids : List ℕ) → ids_of formats schema first i ≡ some ids
      → rule ≡ sparse_rule x (first + i) ids (child_of_id ids)
  sparse_node_lem h s ids e =
      by_kind (sparse_node ids) (at_union formats schema first i h ∙ ap (λ b. union_kind b (ids_or (ids_of formats schema first i))) s ∙ ap (λ o. sparse_node (ids_or o)) e)
      ∙ sparse_from x first i ids (node_of (tree_of formats schema first n) i ids)

  pub dense_node_lem : is_union code ≡ true → eqb code 21 ≡ false → (ids : List ℕ) → ids_of formats schema first i ≡ some ids
      → rule ≡ dense_rule x (first + i) ids (child_of_id ids)
  dense_node_lem h s ids e =
      by_kind (dense_node ids) (at_union formats schema first i h ∙ ap (λ b. union_kind b (ids_or (ids_of formats schema first i))) s ∙ ap (λ o. dense_node (ids_or o)) e)
      ∙ dense_from x first i ids (node_of (tree_of formats schema first n) i ids)

-- ---- what the shape of node i says

module _ (formats schema : List ℕ) (first i : ℕ) (s : shape formats schema first i ≡ true) where
  abbrev here : ℕ
  here = code_of formats schema first i

  -- one of the five shapes, by what each says of the code
  pub by_shape : {A : Type 0} → (is_fixed here || is_string here || is_view here ≡ true → A) → (is_integer here ≡ true → A) → (is_list_view here || is_list here ≡ true → A)
      → (union_shape formats schema first i ≡ true → A) → (is_run_end here ≡ true → A) → A
  unfolding shape leaf_shape keys_shape list_shape run_shape
  by_shape leaf keys list union run =
      five formats schema first
      (leaf_shape formats schema first i)
      (keys_shape formats schema first i)
      (list_shape formats schema first i)
      (union_shape formats schema first i)
      (run_shape formats schema first i)
      s
      (λ h. leaf (both (is_fixed here || is_string here || is_view here) _ h).0)
      (λ h. keys (both (is_integer here) _ (both (is_integer here && eqb (children schema first i) 0) _ (both (is_integer here && eqb (children schema first i) 0 && eqb (dictionary schema first i) 1) _ h).0).0).0)
      (λ h. list (both (is_list_view here || is_list here) _ (both ((is_list_view here || is_list here) && eqb (children schema first i) 1) _ h).0).0)
      union
      (λ h. run (both (is_run_end here) _ (both (is_run_end here && eqb (children schema first i) 2) _ (both (is_run_end here && eqb (children schema first i) 2 && eqb (dictionary schema first i) 0) _ h).0).0).0)

  -- what is none of the others is a list-view
  pub list_left : is_fixed here ≡ false → is_view here ≡ false → is_union here ≡ false → is_run_end here ≡ false → is_string here ≡ false → is_list here ≡ false → is_list_view here ≡ true
  unfolding union_shape
  list_left f v u r t o =
      by_shape
      (λ h. either (is_fixed here || is_string here) (is_view here) h (λ g. either (is_fixed here) (is_string here) g (λ q. clash q f) (λ q. clash q t)) (λ q. clash q v))
      (λ h. clash (integer_fixed here h) f)
      (λ h. either (is_list_view here) (is_list here) h (λ q. q) (λ q. clash q o))
      (λ h. clash (both (is_union here) _ (both (is_union here && child_for_each schema first (ids_of formats schema first i) i) _ h).0).0 u)
      (λ h. clash h r)

  -- a union has a child for each id
  pub union_each : is_union here ≡ true → child_for_each schema first (ids_of formats schema first i) i ≡ true
  unfolding union_shape
  union_each u =
      by_shape
      (λ h.
      either (is_fixed here || is_string here) (is_view here) h
      (λ g. either (is_fixed here) (is_string here) g (λ q. clash q (later 1 10 21 22 here u (omega arith))) (λ q. clash q (later 11 14 21 22 here u (omega arith))))
      (λ q. clash q (later 15 16 21 22 here u (omega arith))))
      (λ h. clash (integer_fixed here h) (later 1 10 21 22 here u (omega arith)))
      (λ h. either (is_list_view here) (is_list here) h (λ q. clash q (later 17 18 21 22 here u (omega arith))) (λ q. clash q (later 19 20 21 22 here u (omega arith))))
      (λ h. (both (is_union here) _ (both (is_union here && child_for_each schema first (ids_of formats schema first i) i) _ h).0).1)
      (λ h. clash u (later 21 22 23 23 here h (omega arith)))

  -- run ends and values stand below a run-end node
  pub record Runs : Type 0 where
    pub two_below : below schema first i ≡ 2
    pub ends_width : RunWidth (width_of (code_of formats schema first (suc i)))

  pub runs : is_run_end here ≡ true → Runs
  runs h = go (at_run formats schema first i h) (shaped formats schema first i s)
    where
      v : ℕ
      v = width_of (code_of formats schema first (suc i))

      go : kind_at formats schema first i ≡ run_end_node v → Shaped formats schema first i → Runs
      go k (of_plain_lem p e z d) = absurd (run_not_plain p (sym k ∙ e))
      go k (of_view e z) = let z : ◌≡◌ {A = ℕ} 0 1 = cc in absurd (omega arith)
      go k (of_list w e z d) = let z : ◌≡◌ {A = ℕ} 0 1 = cc in absurd (omega arith)
      go k (of_lists_lem w e z d) = let z : ◌≡◌ {A = ℕ} 0 1 = cc in absurd (omega arith)
      go k (of_sparse ids e z d o) = let z : ◌≡◌ {A = ℕ} 0 1 = cc in absurd (omega arith)
      go k (of_dense ids e z d o) = let z : ◌≡◌ {A = ℕ} 0 1 = cc in absurd (omega arith)
      go k (of_run_lem m e z e1 z1 d) = let q : width m ≡ v = cc in record { two_below = z; ends_width = subst RunWidth q d }
      go k (of_dictionary m p e z e1 z1 g d) = let z : ◌≡◌ {A = ℕ} 0 1 = cc in absurd (omega arith)

-- the run ends are one of the nodes
pub ends_inside : (formats schema : List ℕ) (first n i : ℕ) → typed formats schema first n ≡ true → i < n → below schema first i ≡ 2 → suc i < n
ends_inside formats schema first n i t l b =
    subst (λ k. k < n) (first_child formats schema first n i) (child_inside schema first n (typed_whole formats schema first n t) i 0 l (omega arith))
