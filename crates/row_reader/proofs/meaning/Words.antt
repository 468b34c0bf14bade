-- The kind that a node's words say is the type tree's, a union's ids aside. Assumes nothing.
use mathlib.Core.Path.{◌≡◌, refl, ap, sym, subst, ◌∙◌}
use mathlib.Core.Bool.{Bool, true, false, cond, ◌&&◌, false≢true, and-eq-true_iff}
use mathlib.Core.Option.{Option, none, some}
use mathlib.Core.List.{List, [], ◌∷◌}
use Prim.Native.Nat.{ℕ, suc, ◌+◌, ◌≤◌, ◌<◌}
use native.Mathlib.Omega.{arith}
use lib.ListN.{length, take, drop}
use lib.Dec.{leb, eqb}
use borrow.Author.Tests.{le-leb, leb-true, leb-false}
use Rattle.columnar.specs.Types.{int, w1, Number, Plain, fixed, string}
use Rattle.schema.specs.formats.Code as code
use Rattle.schema.specs.formats.Code.{Rule, is, begins, look, table, last_code, is_fixed, is_string, is_view, is_list_view, is_list, is_union, is_sparse, is_run_end, width_of}
use Rattle.schema.specs.formats.Types.{number_of, number_or}
use Rattle.schema.specs.union_ids.Ids.{ids_at}
use Rattle.schema.proofs.union_ids.Same.{Fine, fine}
use Rattle.schema.specs.Tree.{field, dictionary, code_of, ids_of, leaf_shape, keys_shape, list_shape, union_shape, run_shape, shape, ceilings, typed}
use Rattle.schema.proofs.Trees.{child_inside}
use Rattle.schema.proofs.Known.{typed_whole, typed_shape, within_nodes}
use Rattle.array_data.specs.NodeKinds.{NodeKind, fixed_node, string_node, view_node, list_view_node, list_node, sparse_node, dense_node, run_end_node, dictionary_node, kind_of, kind_at}
use Rattle.array_data.proofs.type_tree.Lent.{first_child}
use Rattle.array_data.proofs.type_tree.Shaped.{Shaped, of_plain_lem, of_view, of_list, of_lists_lem, of_sparse, of_dense, of_run_lem, of_dictionary, shaped, at_run, plain_kind}
use Rattle.slot_reader.specs.Slots.{code_word, known, kind_word}
use Rattle.row_reader.proofs.meaning.Child.{words, word_code, word_dictionary}
use Rattle.columnar.specs.Test.{same}
use Rattle.array_data.proofs.Names.{ids_or, number_kind, union_kind}

-- ---- codes are at most the last

low : List Rule → Bool
low [] = true
low (is s c ∷ rules) = leb c last_code && low rules
low (begins s c ∷ rules) = leb c last_code && low rules

cond_le : (b : Bool) (x y m : ℕ) → x ≤ m → y ≤ m → cond b x y ≤ m
cond_le true x y m p q = p
cond_le false x y m p q = q

look_low : (rules : List Rule) (t : List ℕ) → low rules ≡ true → look rules t ≤ last_code
unfolding low
look_low [] t h = omega arith
look_low (is s c ∷ rules) t h =
    let p = (and-eq-true_iff (leb c last_code) (low rules)).0 h in
    cond_le (same t s) c (look rules t) last_code (leb-true c last_code p.0) (look_low rules t p.1)
look_low (begins s c ∷ rules) t h =
    let p = (and-eq-true_iff (leb c last_code) (low rules)).0 h in
    cond_le (same (take (length s) t) s) c (look rules t) last_code (leb-true c last_code p.0) (look_low rules t p.1)

text_low : (t : List ℕ) → code.code_of t ≤ last_code
unfolding code.code_of low
text_low t = look_low table t refl

-- ---- a kind without ids

abbrev pub plainer : NodeKind → NodeKind
plainer (fixed_node m) = fixed_node m
plainer (string_node w) = string_node w
plainer view_node = view_node
plainer (list_view_node w) = list_view_node w
plainer (list_node w) = list_node w
plainer (sparse_node ids) = sparse_node []
plainer (dense_node ids) = dense_node []
plainer (run_end_node w) = run_end_node w
plainer (dictionary_node m) = dictionary_node m

number_plainer : (b : Bool) (m : Number) → number_kind b m ≡ plainer (number_kind b m)
number_plainer true m = refl
number_plainer false m = refl

union_plainer : (b : Bool) (ids : List ℕ) → union_kind b [] ≡ plainer (union_kind b ids)
union_plainer true ids = refl
union_plainer false ids = refl

plain_kind_lem : (c : ℕ) (s : Bool) (o : Option (List ℕ)) (next next' : ℕ) → (is_run_end c ≡ true → width_of next' ≡ width_of next)
    → kind_of c s none next' ≡ plainer (kind_of c s o next)
plain_kind_lem c s o next next' h = go (is_fixed c) (is_string c) (is_view c) (is_list_view c) (is_list c) (is_union c) (is_run_end c) h
  where
    go : (f g v l m u r : Bool) → (r ≡ true → width_of next' ≡ width_of next)
        → cond f (number_kind s (number_or (number_of c))) (cond g (string_node (width_of c)) (cond v view_node (cond l (list_view_node (width_of c)) (cond m (list_node (width_of c)) (cond u (union_kind (is_sparse c) []) (cond r (run_end_node (width_of next')) (fixed_node (int w1))))))))
        ≡ plainer (cond f (number_kind s (number_or (number_of c))) (cond g (string_node (width_of c)) (cond v view_node (cond l (list_view_node (width_of c)) (cond m (list_node (width_of c)) (cond u (union_kind (is_sparse c) (ids_or o)) (cond r (run_end_node (width_of next)) (fixed_node (int w1)))))))))
    go true g v l m u r k = number_plainer s (number_or (number_of c))
    go false true v l m u r k = refl
    go false false true l m u r k = refl
    go false false false true m u r k = refl
    go false false false false true u r k = refl
    go false false false false false true r k = union_plainer (is_sparse c) (ids_or o)
    go false false false false false false true k = ap run_end_node (k refl)
    go false false false false false false false k = refl

-- ---- a union's ids

abbrev ids_in : NodeKind → List ℕ
ids_in (fixed_node m) = []
ids_in (string_node w) = []
ids_in view_node = []
ids_in (list_view_node w) = []
ids_in (list_node w) = []
ids_in (sparse_node ids) = ids
ids_in (dense_node ids) = ids
ids_in (run_end_node w) = []
ids_in (dictionary_node m) = []

abbrev is_union_kind : NodeKind → Bool
is_union_kind (fixed_node m) = false
is_union_kind (string_node w) = false
is_union_kind view_node = false
is_union_kind (list_view_node w) = false
is_union_kind (list_node w) = false
is_union_kind (sparse_node ids) = true
is_union_kind (dense_node ids) = true
is_union_kind (run_end_node w) = false
is_union_kind (dictionary_node m) = false

abbrev pub is_run_kind : NodeKind → Bool
is_run_kind (fixed_node m) = false
is_run_kind (string_node w) = false
is_run_kind view_node = false
is_run_kind (list_view_node w) = false
is_run_kind (list_node w) = false
is_run_kind (sparse_node ids) = false
is_run_kind (dense_node ids) = false
is_run_kind (run_end_node w) = true
is_run_kind (dictionary_node m) = false

number_no_union : (b : Bool) (m : Number) → is_union_kind (number_kind b m) ≡ false
number_no_union true m = refl
number_no_union false m = refl

union_in : (b : Bool) (ids : List ℕ) → ids_in (union_kind b ids) ≡ ids
union_in true ids = refl
union_in false ids = refl

kind_ids : (c : ℕ) (s : Bool) (o : Option (List ℕ)) (next : ℕ) (k : NodeKind) → kind_of c s o next ≡ k → is_union_kind k ≡ true → ids_or o ≡ ids_in k
kind_ids c s o next k e h = go (is_fixed c) (is_string c) (is_view c) (is_list_view c) (is_list c) (is_union c) (is_run_end c) e
  where
    go : (f g v l m u r : Bool)
        → cond f (number_kind s (number_or (number_of c))) (cond g (string_node (width_of c)) (cond v view_node (cond l (list_view_node (width_of c)) (cond m (list_node (width_of c)) (cond u (union_kind (is_sparse c) (ids_or o)) (cond r (run_end_node (width_of next)) (fixed_node (int w1))))))))
        ≡ k → ids_or o ≡ ids_in k
    go true g v l m u r q = absurd (false≢true (sym (number_no_union s (number_or (number_of c))) ∙ ap is_union_kind q ∙ h))
    go false true v l m u r q = absurd (false≢true (ap is_union_kind q ∙ h))
    go false false true l m u r q = absurd (false≢true (ap is_union_kind q ∙ h))
    go false false false true m u r q = absurd (false≢true (ap is_union_kind q ∙ h))
    go false false false false true u r q = absurd (false≢true (ap is_union_kind q ∙ h))
    go false false false false false true r q = sym (union_in (is_sparse c) (ids_or o)) ∙ ap ids_in q
    go false false false false false false true q = absurd (false≢true (ap is_union_kind q ∙ h))
    go false false false false false false false q = absurd (false≢true (ap is_union_kind q ∙ h))

few_by : (o : Option (List ℕ)) → Fine o → length (ids_or o) ≤ 16
few_by none f = omega arith
few_by (some ids) f = f.few

-- ---- the words of a tree that passes

module _ (formats schema : List ℕ) (first n : ℕ) where
  pub code_low : (i : ℕ) → code_of formats schema first i ≤ last_code
  unfolding code_of
  code_low i =
      let at = field schema (first + i) 0 in
      let len = field schema (first + i) 1 in
      cond_le (leb (at + len) (length formats)) (code.code_of (take len (drop at formats))) 0 last_code (text_low (take len (drop at formats))) (omega arith)

  pub ids_few : (i : ℕ) → length (ids_or (ids_of formats schema first i)) ≤ 16
  unfolding ids_of
  ids_few i = few_by (ids_at formats (field schema (first + i) 0) (field schema (first + i) 1)) (fine formats (field schema (first + i) 0) (field schema (first + i) 1))

  pub sparse_ids : (i : ℕ) (ids : List ℕ) → kind_at formats schema first i ≡ sparse_node ids → ids_or (ids_of formats schema first i) ≡ ids
  unfolding kind_at
  sparse_ids i ids e = kind_ids (code_of formats schema first i) (eqb (dictionary schema first i) 0) (ids_of formats schema first i) (code_of formats schema first (suc i)) (sparse_node ids) e refl

  pub dense_ids : (i : ℕ) (ids : List ℕ) → kind_at formats schema first i ≡ dense_node ids → ids_or (ids_of formats schema first i) ≡ ids
  unfolding kind_at
  dense_ids i ids e = kind_ids (code_of formats schema first i) (eqb (dictionary schema first i) 0) (ids_of formats schema first i) (code_of formats schema first (suc i)) (dense_node ids) e refl

  pub coded : (i : ℕ) → shape formats schema first i ≡ true → 1 ≤ code_of formats schema first i
  unfolding shape leaf_shape keys_shape list_shape union_shape run_shape
  coded i h = go (leb 1 (code_of formats schema first i)) refl
    where
      go : (b : Bool) → leb 1 (code_of formats schema first i) ≡ b → 1 ≤ code_of formats schema first i
      go true e = leb-true 1 (code_of formats schema first i) e
      go false e =
          let z : code_of formats schema first i ≡ 0 = omega (arith, leb-false 1 (code_of formats schema first i) e) in
          absurd (false≢true (rw z at h))

  module _ (t : typed formats schema first n ≡ true) (c : ceilings formats schema first n ≡ true) where
    few : n ≤ 32
    few = within_nodes formats schema first n c

    abbrev w : List ℕ
    w = words formats schema first n

    code_word_lem : (i : ℕ) → i < n → code_word w i ≡ code_of formats schema first i
    unfolding code_word
    code_word_lem i l = rw (word_code formats schema first n few i l, le-leb (code_of formats schema first i) last_code (code_low i))

    pub node_shaped : (i : ℕ) → i < n → Shaped formats schema first i
    node_shaped i l = shaped formats schema first i (typed_shape formats schema first n t i l)

    plain_no_run : (p : Plain) → is_run_kind (plain_kind p) ≡ false
    plain_no_run (fixed m) = refl
    plain_no_run (string v) = refl

    -- run ends stand inside the tree
    next_in : (i : ℕ) → i < n → Shaped formats schema first i → is_run_end (code_of formats schema first i) ≡ true → suc i < n
    next_in i l s r = by s (at_run formats schema first i r)
      where
        by : Shaped formats schema first i → kind_at formats schema first i ≡ run_end_node (width_of (code_of formats schema first (suc i))) → suc i < n
        by (of_plain_lem p e z d) q = absurd (false≢true (sym (plain_no_run p) ∙ ap is_run_kind (sym e ∙ q)))
        by (of_view e z) q = absurd (false≢true (ap is_run_kind (sym e ∙ q)))
        by (of_list v e z d) q = absurd (false≢true (ap is_run_kind (sym e ∙ q)))
        by (of_lists_lem v e z d) q = absurd (false≢true (ap is_run_kind (sym e ∙ q)))
        by (of_sparse ids e z d o) q = absurd (false≢true (ap is_run_kind (sym e ∙ q)))
        by (of_dense ids e z d o) q = absurd (false≢true (ap is_run_kind (sym e ∙ q)))
        by (of_run_lem m e z e1 z1 d) q = subst (λ k. k < n) (first_child formats schema first n i) (child_inside schema first n (typed_whole formats schema first n t) i 0 l (omega arith))
        by (of_dictionary m p e z e1 z1 g d) q = absurd (false≢true (ap is_run_kind (sym e ∙ q)))

    -- THE KIND by the words
    pub kind_word_lem : (i : ℕ) → i < n → kind_word w i ≡ plainer (kind_at formats schema first i)
    unfolding kind_word kind_at
    kind_word_lem i l =
        rw (code_word_lem i l, word_dictionary formats schema first n few i l)
        (plain_kind_lem (code_of formats schema first i) (eqb (dictionary schema first i) 0) (ids_of formats schema first i) (code_of formats schema first (suc i)) (code_word w (suc i)) (λ r. ap width_of (code_word_lem (suc i) (next_in i l (node_shaped i l) r))))

    pub known_word : (i : ℕ) → i < n → known w i ≡ true
    known_word i l = le-leb 1 (code_word w i) (omega (arith, code_word_lem i l, coded i (typed_shape formats schema first n t i l)))
