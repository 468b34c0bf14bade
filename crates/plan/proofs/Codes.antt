-- The code of a node by its kind, and what a node's shape says of its dictionary. Assumes nothing.
use mathlib.Core.Path.{◌≡◌, refl, sym, ap, ◌∙◌}
use mathlib.Core.Bool.{Bool, true, false, not, cond, ◌&&◌, ◌||◌, false≢true}
use mathlib.Core.List.{List}
use Prim.Native.Nat.{ℕ, zero, suc, ◌≤◌}
use native.Mathlib.Omega.{arith}
use lib.ListN.{length}
use lib.Dec.{leb, eqb}
use borrow.Author.Tests.{eqb-true, eqb-false, leb-true, le-leb, not-true}
use Rattle.columnar.specs.Types.{Number, int, w1, Plain, fixed, string}
use Rattle.schema.specs.formats.Code.{between, is_integer, is_fixed, is_string, is_view, is_list_view, is_list, is_union, is_run_end, width_of}
use Rattle.schema.specs.formats.Types.{number_of, number_or}
use Rattle.schema.specs.Tree.{children, dictionary, below, bare, code_of, ids_of, child_for_each, shape, leaf_shape, keys_shape, list_shape, union_shape, run_shape}
use Rattle.array_data.specs.NodeKinds.{NodeKind, fixed_node, string_node, view_node, list_view_node, list_node, sparse_node, dense_node, run_end_node, dictionary_node, kind_at}
use Rattle.array_data.proofs.type_tree.Shaped.{plain_kind, Shaped, of_plain_lem, of_view, of_list, of_lists_lem, of_sparse, of_dense, of_run_lem, of_dictionary}
use Rattle.array_data.proofs.lent_tables.Laws.{and_left, and_right}
use Rattle.plan.specs.dictionaries.Sources.{of_strings}
use Rattle.array_data.proofs.Names.{ids_or, number_kind, union_kind}

-- ---- kinds by number: 0 numbers, 1 byte strings, 2 views, 3 list-views, 4 lists, 5 unions, 6 run-end nodes, 7 keys

abbrev sort : NodeKind → ℕ
sort (fixed_node m) = 0
sort (string_node w) = 1
sort view_node = 2
sort (list_view_node w) = 3
sort (list_node w) = 4
sort (sparse_node ids) = 5
sort (dense_node ids) = 5
sort (run_end_node w) = 6
sort (dictionary_node m) = 7

-- by the tests of a code, in their order, and whether there is no dictionary
abbrev sort_by : Bool → Bool → Bool → Bool → Bool → Bool → Bool → Bool → ℕ
sort_by f s v l o u r single = cond f (cond single 0 7) (cond s 1 (cond v 2 (cond l 3 (cond o 4 (cond u 5 (cond r 6 0))))))

module _ (m : Number) (a b d c : ℕ) (ids : List ℕ) where
  sort_is : (f s v l o u r single sparse : Bool)
      → sort (cond f (number_kind single m) (cond s (string_node a) (cond v view_node (cond l (list_view_node b) (cond o (list_node d) (cond u (union_kind sparse ids) (cond r (run_end_node c) (fixed_node (int w1)))))))))
      ≡ sort_by f s v l o u r single
  sort_is true s v l o u r true sparse = refl
  sort_is true s v l o u r false sparse = refl
  sort_is false true v l o u r single sparse = refl
  sort_is false false true l o u r single sparse = refl
  sort_is false false false true o u r single sparse = refl
  sort_is false false false false true u r single sparse = refl
  sort_is false false false false false true r single true = refl
  sort_is false false false false false true r single false = refl
  sort_is false false false false false false true single sparse = refl
  sort_is false false false false false false false single sparse = refl

-- the test of a sort from 1 on
abbrev pick : ℕ → Bool → Bool → Bool → Bool → Bool → Bool → Bool → Bool
pick zero s v l o u r single = s
pick (suc zero) s v l o u r single = v
pick (suc (suc zero)) s v l o u r single = l
pick (suc (suc (suc zero))) s v l o u r single = o
pick (suc (suc (suc (suc zero)))) s v l o u r single = u
pick (suc (suc (suc (suc (suc zero))))) s v l o u r single = r
pick (suc (suc (suc (suc (suc (suc k)))))) s v l o u r single = not single

sort_pick : (f s v l o u r single : Bool) (k : ℕ) → sort_by f s v l o u r single ≡ suc k → pick k s v l o u r single ≡ true
sort_pick true s v l o u r true k e = absurd (omega arith)
sort_pick true s v l o u r false k e = let q : k ≡ 6 = omega arith in rw q
sort_pick false true v l o u r single k e = let q : k ≡ 0 = omega arith in rw q
sort_pick false false true l o u r single k e = let q : k ≡ 1 = omega arith in rw q
sort_pick false false false true o u r single k e = let q : k ≡ 2 = omega arith in rw q
sort_pick false false false false true u r single k e = let q : k ≡ 3 = omega arith in rw q
sort_pick false false false false false true r single k e = let q : k ≡ 4 = omega arith in rw q
sort_pick false false false false false false true single k e = let q : k ≡ 5 = omega arith in rw q
sort_pick false false false false false false false single k e = absurd (omega arith)

-- a number has no code of a byte string: the two ranges are apart
sort_number : (f s v l o u r single : Bool) → (f ≡ true → s ≡ false) → sort_by f s v l o u r single ≡ 0 → s ≡ false
sort_number true s v l o u r single h e = h refl
sort_number false true v l o u r single h e = absurd (omega arith)
sort_number false false v l o u r single h e = refl

pub is_false : (b : Bool) → (b ≡ true → ⊥) → b ≡ false
is_false true h = absurd (h refl)
is_false false h = refl

-- no code is in two ranges
apart : (low high low' high' c : ℕ) → suc high ≤ low' → between low high c ≡ true → between low' high' c ≡ true → ⊥
apart low high low' high' c h e q =
    let a = leb-true c high (and_right (leb low c) (leb c high) e) in
    let b = leb-true low' c (and_left (leb low' c) (leb c high') q) in
    omega arith

module _ (formats schema : List ℕ) (first i : ℕ) where
  abbrev code : ℕ
  code = code_of formats schema first i

  abbrev single : Bool
  single = eqb (dictionary schema first i) 0

  sorted : {k : NodeKind} → kind_at formats schema first i ≡ k → sort_by (is_fixed code) (is_string code) (is_view code) (is_list_view code) (is_list code) (is_union code) (is_run_end code) single ≡ sort k
  unfolding kind_at
  sorted e =
      sym
      (sort_is (number_or (number_of code)) (width_of code) (width_of code) (width_of code) (width_of (code_of formats schema first (suc i))) (ids_or (ids_of formats schema first i))
      (is_fixed code) (is_string code) (is_view code) (is_list_view code) (is_list code) (is_union code) (is_run_end code) single (eqb code 21))
      ∙ ap sort e

  picked : {k : NodeKind} (j : ℕ) → kind_at formats schema first i ≡ k → sort k ≡ suc j
      → pick j (is_string code) (is_view code) (is_list_view code) (is_list code) (is_union code) (is_run_end code) single ≡ true
  picked j e q = sort_pick (is_fixed code) (is_string code) (is_view code) (is_list_view code) (is_list code) (is_union code) (is_run_end code) single j (sorted e ∙ q)

  pub view_code : kind_at formats schema first i ≡ view_node → is_view code ≡ true
  view_code e = picked 1 e refl

  pub list_code : (w : ℕ) → kind_at formats schema first i ≡ list_view_node w → is_list_view code ≡ true
  list_code w e = picked 2 e refl

  pub lists_code : (w : ℕ) → kind_at formats schema first i ≡ list_node w → is_list code ≡ true
  lists_code w e = picked 3 e refl

  pub sparse_code : (ids : List ℕ) → kind_at formats schema first i ≡ sparse_node ids → is_union code ≡ true
  sparse_code ids e = picked 4 e refl

  pub dense_code : (ids : List ℕ) → kind_at formats schema first i ≡ dense_node ids → is_union code ≡ true
  dense_code ids e = picked 4 e refl

  pub run_code : (w : ℕ) → kind_at formats schema first i ≡ run_end_node w → is_run_end code ≡ true
  run_code w e = picked 5 e refl

  pub keys_code : (m : Number) → kind_at formats schema first i ≡ dictionary_node m → dictionary schema first i ≡ 0 → ⊥
  keys_code m e = eqb-false (dictionary schema first i) 0 (not-true single (picked 6 e refl))

  -- numbers and byte strings, as the values of a dictionary
  pub strings_code : (p : Plain) → kind_at formats schema first i ≡ plain_kind p → is_string code ≡ of_strings p
  strings_code (fixed m) e =
      sort_number (is_fixed code) (is_string code) (is_view code) (is_list_view code) (is_list code) (is_union code) (is_run_end code) single
      (λ f. is_false (is_string code) (apart 1 10 11 14 code (omega arith) f)) (sorted e)
  strings_code (string w) e = picked 0 e refl

  -- how many subtrees stand below a node of a kind
  abbrev many_below : NodeKind → ℕ
  many_below (fixed_node m) = 0
  many_below (string_node w) = 0
  many_below view_node = 0
  many_below (list_view_node w) = 1
  many_below (list_node w) = 1
  many_below (sparse_node ids) = length ids
  many_below (dense_node ids) = length ids
  many_below (run_end_node w) = 2
  many_below (dictionary_node m) = 1

  many : Shaped formats schema first i → below schema first i ≡ many_below (kind_at formats schema first i)
  many (of_plain_lem (fixed m) e z d) = z ∙ sym (ap many_below e)
  many (of_plain_lem (string w) e z d) = z ∙ sym (ap many_below e)
  many (of_view e z) = z ∙ sym (ap many_below e)
  many (of_list w e z d) = z ∙ sym (ap many_below e)
  many (of_lists_lem w e z d) = z ∙ sym (ap many_below e)
  many (of_sparse ids e z d o) = z ∙ sym (ap many_below e)
  many (of_dense ids e z d o) = z ∙ sym (ap many_below e)
  many (of_run_lem m e z e1 z1 d) = z ∙ sym (ap many_below e)
  many (of_dictionary m p e z e1 z1 g d) = z ∙ sym (ap many_below e)

  pub many_below_lem : {k : NodeKind} → Shaped formats schema first i → kind_at formats schema first i ≡ k → below schema first i ≡ many_below k
  many_below_lem s e = many s ∙ ap many_below e

-- ---- only a fixed-width format has a dictionary

five : {A : Type 0} (a b c d e : Bool) → a || b || c || d || e ≡ true → (a ≡ true → A) → (b ≡ true → A) → (c ≡ true → A) → (d ≡ true → A) → (e ≡ true → A) → A
five true b c d e h p q r s t = p refl
five false true c d e h p q r s t = q refl
five false false true d e h p q r s t = r refl
five false false false true e h p q r s t = s refl
five false false false false e h p q r s t = t h

module _ (formats schema : List ℕ) (first i : ℕ) where
  of_leaf : leaf_shape formats schema first i ≡ true → (single formats schema first i) ≡ true
  unfolding leaf_shape bare
  of_leaf h =
      and_right (eqb (children schema first i) 0) (single formats schema first i)
      (and_right (is_fixed (code_of formats schema first i) || is_string (code_of formats schema first i) || is_view (code_of formats schema first i)) _ h)

  of_keys : keys_shape formats schema first i ≡ true → is_fixed (code_of formats schema first i) ≡ true
  unfolding keys_shape
  of_keys h =
      let c = code_of formats schema first i in
      let a = and_left (is_integer c && eqb (children schema first i) 0 && eqb (dictionary schema first i) 1) _ h in
      let b = and_left (is_integer c) _ (and_left (is_integer c && eqb (children schema first i) 0) _ a) in
      let low = leb-true 1 c (and_left (leb 1 c) (leb c 8) b) in
      let high = leb-true c 8 (and_right (leb 1 c) (leb c 8) b) in
      rw (le-leb 1 c low, le-leb c 10 (omega arith))

  of_listed : list_shape formats schema first i ≡ true → (single formats schema first i) ≡ true
  unfolding list_shape
  of_listed h = and_right ((is_list_view (code_of formats schema first i) || is_list (code_of formats schema first i)) && eqb (children schema first i) 1) (single formats schema first i) h

  of_unions : union_shape formats schema first i ≡ true → (single formats schema first i) ≡ true
  unfolding union_shape
  of_unions h = and_right (is_union (code_of formats schema first i) && child_for_each schema first (ids_of formats schema first i) i) (single formats schema first i) h

  of_runs : run_shape formats schema first i ≡ true → (single formats schema first i) ≡ true
  unfolding run_shape
  of_runs h =
      and_right (is_run_end (code_of formats schema first i) && eqb (children schema first i) 2) (single formats schema first i)
      (and_left (is_run_end (code_of formats schema first i) && eqb (children schema first i) 2 && (single formats schema first i)) _ h)

  pub no_dictionary : shape formats schema first i ≡ true → is_fixed (code_of formats schema first i) ≡ false → dictionary schema first i ≡ 0
  unfolding shape
  no_dictionary h n =
      eqb-true (dictionary schema first i) 0
      (five (leaf_shape formats schema first i) (keys_shape formats schema first i) (list_shape formats schema first i) (union_shape formats schema first i)
      (run_shape formats schema first i) h of_leaf (λ k. absurd (false≢true (sym n ∙ of_keys k))) of_listed of_unions of_runs)

-- ---- formats of other ranges are not fixed-width and no run-end node

module _ (c : ℕ) where
  pub list_not_fixed : is_list_view c ≡ true → is_fixed c ≡ false
  list_not_fixed e = is_false (is_fixed c) (λ q. apart 1 10 17 18 c (omega arith) q e)

  pub union_not_fixed : is_union c ≡ true → is_fixed c ≡ false
  union_not_fixed e = is_false (is_fixed c) (λ q. apart 1 10 21 22 c (omega arith) q e)

  pub run_not_fixed : is_run_end c ≡ true → is_fixed c ≡ false
  run_not_fixed e = is_false (is_fixed c) (λ q. apart 1 10 23 23 c (omega arith) q e)

  pub view_not_fixed : is_view c ≡ true → is_fixed c ≡ false
  view_not_fixed e = is_false (is_fixed c) (λ q. apart 1 10 15 16 c (omega arith) q e)

  pub lists_not_fixed : is_list c ≡ true → is_fixed c ≡ false
  lists_not_fixed e = is_false (is_fixed c) (λ q. apart 1 10 19 20 c (omega arith) q e)

  pub lists_not_run : is_list c ≡ true → is_run_end c ≡ false
  lists_not_run e = is_false (is_run_end c) (apart 19 20 23 23 c (omega arith) e)

  pub list_not_run : is_list_view c ≡ true → is_run_end c ≡ false
  list_not_run e = is_false (is_run_end c) (apart 17 18 23 23 c (omega arith) e)

  pub union_not_run : is_union c ≡ true → is_run_end c ≡ false
  union_not_run e = is_false (is_run_end c) (apart 21 22 23 23 c (omega arith) e)
