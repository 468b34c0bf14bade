-- The codes of a typed tree's nodes say whether its column is one of whole numbers. Assumes nothing.
use Rattle.std.proofs.Common.{◌≡◌, ℕ, zero, suc, ◌<◌, Bool, true, false, cond, not, ◌&&◌, ◌||◌, eqb, leb, ◌⊎◌, List, sym, refl, ap, ◌∙◌, subst, inl, inr, arith, ne_eqb, eqb-true, leb-true}
use mathlib.Core.Bool.{false≢true}
use Rattle.columnar.specs.Types.{Plain, fixed, string, Ty, t_plain, t_run_end}
use Rattle.columnar.specs.Formed.{RunWidth}
use Rattle.columnar.specs.Wider.{integer}
use Rattle.schema.specs.formats.Code.{between, is_integer, is_fixed, is_string, is_view, is_list_view, is_list, is_union, is_sparse, is_run_end, width_of}
use Rattle.schema.specs.formats.Types.{number_of}
use Rattle.schema.specs.Tree.{children, dictionary, below, bare, child_for_each, code_of, ids_of, values_shape, ends_shape, leaf_shape, keys_shape, list_shape, union_shape, run_shape, shape, typed}
use Rattle.schema.proofs.Trees.{child_inside}
use Rattle.schema.proofs.Known.{typed_whole, typed_shape}
use Rattle.array_data.proofs.type_tree.ByKind.{ty_as, type_by_lem, type_as}
use Rattle.array_data.specs.NodeKinds.{NodeKind, fixed_node, string_node, view_node, list_view_node, list_node, sparse_node, dense_node, run_end_node, dictionary_node, kind_at}
use Rattle.array_data.specs.Typed.{Tree}
use Rattle.array_data.specs.type_tree.Lent.{tree_of, ty_of, type_of}
use Rattle.array_data.proofs.type_tree.Lent.{first_child, second_child, some_node}
use Rattle.array_data.proofs.type_tree.Shaped.{Shaped, of_plain_lem, of_view, of_list, of_lists_lem, of_sparse, of_dense, of_run_lem, of_dictionary, shaped, five, later, plain_kind, integer_fixed, at_fixed, at_keys, at_string, at_view, at_list, at_lists, at_union, at_run}
use Rattle.array_data.proofs.lent_tables.Laws.{and_left, and_right}
use Rattle.aggregates.specs.cells.Cells.{number_at}
use Rattle.aggregates.specs.declared.Shape.{Shape}
use Rattle.aggregates.specs.Report.{whole_plain, whole_type}
use Rattle.aggregates.specs.Shape.{whole_code, shape_of}
use Rattle.array_data.proofs.Names.{ids_or, union_kind}

-- ---- kinds

abbrev whole_kind : NodeKind → Bool
whole_kind (fixed_node m) = integer m
whole_kind (string_node w) = false
whole_kind view_node = false
whole_kind (list_view_node w) = false
whole_kind (list_node w) = false
whole_kind (sparse_node ids) = false
whole_kind (dense_node ids) = false
whole_kind (run_end_node w) = false
whole_kind (dictionary_node m) = false

abbrev is_run : NodeKind → Bool
is_run (fixed_node m) = false
is_run (string_node w) = false
is_run view_node = false
is_run (list_view_node w) = false
is_run (list_node w) = false
is_run (sparse_node ids) = false
is_run (dense_node ids) = false
is_run (run_end_node w) = true
is_run (dictionary_node m) = false

plain_whole : (t : Tree) (sub : ℕ → Ty) (k : NodeKind) (i : ℕ) → whole_plain (ty_as t sub k i) ≡ whole_kind k
plain_whole t sub (fixed_node m) i = refl
plain_whole t sub (string_node w) i = refl
plain_whole t sub view_node i = refl
plain_whole t sub (list_view_node w) i = refl
plain_whole t sub (list_node w) i = refl
plain_whole t sub (sparse_node ids) i = refl
plain_whole t sub (dense_node ids) i = refl
plain_whole t sub (run_end_node w) i = refl
plain_whole t sub (dictionary_node m) i = refl

type_whole : (t : Tree) (sub : ℕ → Ty) (k : NodeKind) (i : ℕ) → whole_type (ty_as t sub k i) ≡ cond (is_run k) (whole_plain (sub (suc (suc i)))) (whole_kind k)
type_whole t sub (fixed_node m) i = refl
type_whole t sub (string_node w) i = refl
type_whole t sub view_node i = refl
type_whole t sub (list_view_node w) i = refl
type_whole t sub (list_node w) i = refl
type_whole t sub (sparse_node ids) i = refl
type_whole t sub (dense_node ids) i = refl
type_whole t sub (run_end_node w) i = refl
type_whole t sub (dictionary_node m) i = refl

-- ---- codes

-- f and g are fixed-width and no whole numbers
fixed_integer : (c : ℕ) → is_fixed c ≡ true → integer (number_at c) ≡ is_integer c
unfolding number_of
fixed_integer zero h = absurd (false≢true h)
fixed_integer (suc zero) h = refl
fixed_integer (suc (suc zero)) h = refl
fixed_integer (suc (suc (suc zero))) h = refl
fixed_integer (suc (suc (suc (suc zero)))) h = refl
fixed_integer (suc (suc (suc (suc (suc zero))))) h = refl
fixed_integer (suc (suc (suc (suc (suc (suc zero)))))) h = refl
fixed_integer (suc (suc (suc (suc (suc (suc (suc zero))))))) h = refl
fixed_integer (suc (suc (suc (suc (suc (suc (suc (suc zero)))))))) h = refl
fixed_integer (suc (suc (suc (suc (suc (suc (suc (suc (suc zero))))))))) h = refl
fixed_integer (suc (suc (suc (suc (suc (suc (suc (suc (suc (suc zero)))))))))) h = refl
fixed_integer (suc (suc (suc (suc (suc (suc (suc (suc (suc (suc (suc c))))))))))) h =
    let k = suc (suc (suc (suc (suc (suc (suc (suc (suc (suc (suc c)))))))))) in
    let top = leb-true k 10 (and_right (leb 1 k) (leb k 10) h) in
    absurd (omega arith)

pub and_no : (a b : Bool) → b ≡ false → a && b ≡ false
and_no true b h = h
and_no false b h = refl

no_and : (a b : Bool) → a ≡ false → a && b ≡ false
no_and true b h = absurd (false≢true (sym h))
no_and false b h = refl

and_yes : (a b : Bool) → b ≡ true → a && b ≡ a
and_yes true b h = h
and_yes false b h = refl

either : (a b : Bool) → a || b ≡ true → (a ≡ true) ⊎ (b ≡ true)
either true b h = inl refl
either false b h = inr h

module _ (formats schema : List ℕ) (first : ℕ) where
  abbrev pub code : ℕ → ℕ
  code i = code_of formats schema first i

  abbrev pub single : ℕ → Bool
  single i = eqb (dictionary schema first i) 0

  -- what a node's code says of its kind
  record Says (i : ℕ) : Type 0 where
    pub of_whole : whole_kind (kind_at formats schema first i) ≡ is_integer (code i) && single i
    pub of_runs : is_run (kind_at formats schema first i) ≡ is_run_end (code i)

  other : (i : ℕ) (k : NodeKind) (c d : ℕ) → kind_at formats schema first i ≡ k → whole_kind k ≡ false → is_run k ≡ false → between c d (code i) ≡ true → 8 < c → is_run_end (code i) ≡ false → Says i
  other i k c d e a b h l r =
      record {
        of_whole = ap whole_kind e ∙ a ∙ sym (no_and (is_integer (code i)) (single i) (later 1 8 c d (code i) h l));
        of_runs = ap is_run e ∙ b ∙ sym r;
      }

  -- a code below 23 is no run-end node's
  no_run : (i c d : ℕ) → between c d (code i) ≡ true → d < 23 → is_run_end (code i) ≡ false
  no_run i c d h l =
      let top = leb-true (code i) d (and_right (leb c (code i)) (leb (code i) d) h) in
      no_and (leb 23 (code i)) (leb (code i) 23) (borrow.Author.Tests.lt-leb 23 (code i) (omega arith))

  says : (i : ℕ) → shape formats schema first i ≡ true → Says i
  unfolding shape leaf_shape keys_shape list_shape union_shape run_shape bare
  says i h =
      five formats schema first
      (leaf_shape formats schema first i) (keys_shape formats schema first i) (list_shape formats schema first i) (union_shape formats schema first i) (run_shape formats schema first i)
      h leaf keys list union run
    where
      of_fixed : is_fixed (code i) ≡ true → single i ≡ true → Says i
      of_fixed f s =
          let e = at_fixed formats schema first i f s in
          record {
            of_whole = ap whole_kind e ∙ fixed_integer (code i) f ∙ sym (and_yes (is_integer (code i)) (single i) s);
            of_runs = ap is_run e ∙ sym (no_run i 1 10 f (omega arith));
          }

      leaf : (is_fixed (code i) || is_string (code i) || is_view (code i)) && (eqb (children schema first i) 0 && single i) ≡ true → Says i
      leaf q = by (either (is_fixed (code i) || is_string (code i)) (is_view (code i)) (and_left (is_fixed (code i) || is_string (code i) || is_view (code i)) (eqb (children schema first i) 0 && single i) q))
        where
          alone : single i ≡ true
          alone = and_right (eqb (children schema first i) 0) (single i) (and_right (is_fixed (code i) || is_string (code i) || is_view (code i)) (eqb (children schema first i) 0 && single i) q)

          low : (is_fixed (code i) ≡ true) ⊎ (is_string (code i) ≡ true) → Says i
          low (inl f) = of_fixed f alone
          low (inr s) = other i _ 11 14 (at_string formats schema first i s) refl refl s (omega arith) (no_run i 11 14 s (omega arith))

          by : (is_fixed (code i) || is_string (code i) ≡ true) ⊎ (is_view (code i) ≡ true) → Says i
          by (inl p) = low (either (is_fixed (code i)) (is_string (code i)) p)
          by (inr v) = other i _ 15 16 (at_view formats schema first i v) refl refl v (omega arith) (no_run i 15 16 v (omega arith))

      keys : is_integer (code i) && eqb (children schema first i) 0 && eqb (dictionary schema first i) 1 && values_shape formats schema first (suc i) ≡ true → Says i
      keys q =
          let p = and_left (is_integer (code i) && eqb (children schema first i) 0 && eqb (dictionary schema first i) 1) (values_shape formats schema first (suc i)) q in
          let one = eqb-true (dictionary schema first i) 1 (and_right (is_integer (code i) && eqb (children schema first i) 0) (eqb (dictionary schema first i) 1) p) in
          let f = integer_fixed (code i) (and_left (is_integer (code i)) (eqb (children schema first i) 0) (and_left (is_integer (code i) && eqb (children schema first i) 0) (eqb (dictionary schema first i) 1) p)) in
          let s : single i ≡ false = ne_eqb (dictionary schema first i) 0 (λ z. omega arith) in
          let e = at_keys formats schema first i f s in
          record { of_whole = ap whole_kind e ∙ sym (and_no (is_integer (code i)) (single i) s); of_runs = ap is_run e ∙ sym (no_run i 1 10 f (omega arith)) }

      list : (is_list_view (code i) || is_list (code i)) && eqb (children schema first i) 1 && single i ≡ true → Says i
      list q =
          by (either (is_list_view (code i)) (is_list (code i)) (and_left (is_list_view (code i) || is_list (code i)) (eqb (children schema first i) 1) (and_left ((is_list_view (code i) || is_list (code i)) && eqb (children schema first i) 1) (single i) q)))
        where
          by : (is_list_view (code i) ≡ true) ⊎ (is_list (code i) ≡ true) → Says i
          by (inl l) = other i _ 17 18 (at_list formats schema first i l) refl refl l (omega arith) (no_run i 17 18 l (omega arith))
          by (inr l) = other i _ 19 20 (at_lists formats schema first i l) refl refl l (omega arith) (no_run i 19 20 l (omega arith))

      union_kind_lem : (b : Bool) (ids : List ℕ) → whole_kind (union_kind b ids) ≡ false
      union_kind_lem true ids = refl
      union_kind_lem false ids = refl

      union_run : (b : Bool) (ids : List ℕ) → is_run (union_kind b ids) ≡ false
      union_run true ids = refl
      union_run false ids = refl

      union : is_union (code i) && child_for_each schema first (ids_of formats schema first i) i && single i ≡ true → Says i
      union q =
          let l = and_left (is_union (code i)) (child_for_each schema first (ids_of formats schema first i) i) (and_left (is_union (code i) && child_for_each schema first (ids_of formats schema first i) i) (single i) q) in
          other i _ 21 22 (at_union formats schema first i l) (union_kind_lem (is_sparse (code i)) (ids_or (ids_of formats schema first i))) (union_run (is_sparse (code i)) (ids_or (ids_of formats schema first i))) l (omega arith) (no_run i 21 22 l (omega arith))

      run : is_run_end (code i) && eqb (children schema first i) 2 && single i && ends_shape formats schema first (suc i) ≡ true → Says i
      run q =
          let l = and_left (is_run_end (code i)) (eqb (children schema first i) 2) (and_left (is_run_end (code i) && eqb (children schema first i) 2) (single i) (and_left (is_run_end (code i) && eqb (children schema first i) 2 && single i) (ends_shape formats schema first (suc i)) q)) in
          let e = at_run formats schema first i l in
          record { of_whole = ap whole_kind e ∙ sym (no_and (is_integer (code i)) (single i) (later 1 8 23 23 (code i) l (omega arith))); of_runs = ap is_run e ∙ sym l }

-- ---- a column's codes

-- a code that is whole numbers'
code_test : (c : ℕ) (s : Bool) → is_integer c && s ≡ not (eqb (cond s (cond (is_integer c) c 0) 0) 0)
code_test c false = and_no (is_integer c) false refl
code_test c true = go (is_integer c) refl
  where
    go : (b : Bool) → is_integer c ≡ b → b && true ≡ not (eqb (cond b c 0) 0)
    go true e = let l = leb-true 1 c (and_left (leb 1 c) (leb c 8) e) in sym (ap not (ne_eqb c 0 (λ z. omega arith)))
    go false e = refl

-- .. is its own
pub code_own : (c : ℕ) (s : Bool) → is_integer c && s ≡ true → cond s (cond (is_integer c) c 0) 0 ≡ c
code_own c s h = rw (and_right (is_integer c) s h, and_left (is_integer c) s h)

module _ (formats schema : List ℕ) (first n : ℕ) (t : typed formats schema first n ≡ true) where
  root_in : 0 < n
  root_in = some_node formats schema first n (typed_whole formats schema first n t)

  -- what a run-end root stands over
  pub record Over : Type 0 where
    pub values_in : 2 < n
    pub of_width : RunWidth (width_of (code formats schema first 1))
    pub kind : kind_at formats schema first 0 ≡ run_end_node (width_of (code formats schema first 1))

  width_by : {a b : ℕ} → run_end_node a ≡ run_end_node b → a ≡ b
  width_by e = cc

  plain_no_run : (p : Plain) → is_run (plain_kind p) ≡ false
  plain_no_run (fixed m) = refl
  plain_no_run (string v) = refl

  pub run_over : is_run_end (code formats schema first 0) ≡ true → Over
  run_over h = by (shaped formats schema first 0 (typed_shape formats schema first n t 0 root_in)) (at_run formats schema first 0 h)
    where
      inside : (k : ℕ) → k < below schema first 0 → Rattle.schema.specs.Tree.child_at schema first n 0 k < n
      inside k l = child_inside schema first n (typed_whole formats schema first n t) 0 k root_in l

      by : Shaped formats schema first 0 → kind_at formats schema first 0 ≡ run_end_node (width_of (code formats schema first 1)) → Over
      by (of_plain_lem p e z d) q = absurd (false≢true (sym (plain_no_run p) ∙ ap is_run (sym e ∙ q)))
      by (of_view e z) q = absurd (false≢true (ap is_run (sym e ∙ q)))
      by (of_list v e z d) q = absurd (false≢true (ap is_run (sym e ∙ q)))
      by (of_lists_lem v e z d) q = absurd (false≢true (ap is_run (sym e ∙ q)))
      by (of_sparse ids e z d o) q = absurd (false≢true (ap is_run (sym e ∙ q)))
      by (of_dense ids e z d o) q = absurd (false≢true (ap is_run (sym e ∙ q)))
      by (of_run_lem m e z e1 z1 d) q =
          let one : 1 < n = subst (λ k. k < n) (first_child formats schema first n 0) (inside 0 (omega arith)) in
          record {
            values_in = subst (λ k. k < n) (second_child formats schema first n 0 one z1) (inside 1 (omega arith));
            of_width = subst RunWidth (width_by (sym e ∙ q)) d;
            kind = q;
          }
      by (of_dictionary m p e z e1 z1 g d) q = absurd (false≢true (ap is_run (sym e ∙ q)))

  abbrev pub values_whole : Bool
  values_whole = is_integer (code formats schema first 2) && single formats schema first 2

  abbrev pub rows_whole : Bool
  rows_whole = is_integer (code formats schema first 0) && single formats schema first 0

  -- the type by the codes
  pub whole_by : whole_type (type_of formats schema first n) ≡ cond (is_run_end (code formats schema first 0)) values_whole rows_whole
  whole_by =
      ap whole_type (type_by_lem (tree_of formats schema first n) 7 0)
      ∙ type_whole (tree_of formats schema first n) (ty_of (tree_of formats schema first n) 7) (kind_at formats schema first 0) 0
      ∙ ap (λ u. cond (is_run (kind_at formats schema first 0)) (whole_plain u) (whole_kind (kind_at formats schema first 0))) (type_by_lem (tree_of formats schema first n) 6 2)
      ∙ go (is_run_end (code formats schema first 0)) refl
    where
      root_says : Says formats schema first 0
      root_says = says formats schema first 0 (typed_shape formats schema first n t 0 root_in)

      go : (b : Bool) → is_run_end (code formats schema first 0) ≡ b
          → cond (is_run (kind_at formats schema first 0)) (whole_plain (ty_as (tree_of formats schema first n) (ty_of (tree_of formats schema first n) 6) (kind_at formats schema first 2) 2)) (whole_kind (kind_at formats schema first 0))
          ≡ cond b values_whole rows_whole
      go true e =
          rw (root_says.of_runs ∙ e)
          (plain_whole (tree_of formats schema first n) (ty_of (tree_of formats schema first n) 6) (kind_at formats schema first 2) 2
          ∙ (says formats schema first 2 (typed_shape formats schema first n t 2 (run_over e).values_in)).of_whole)
      go false e = rw (root_says.of_runs ∙ e) root_says.of_whole

  -- THE TYPE IS ONE OF WHOLE NUMBERS where the shape has a code
  pub whole_is : whole_type (type_of formats schema first n) ≡ not (eqb (shape_of formats schema first).code 0)
  unfolding shape_of whole_code
  whole_is = whole_by ∙ go (is_run_end (code formats schema first 0))
    where
      go : (b : Bool) → cond b values_whole rows_whole
          ≡ not (eqb (cond {A = Shape} b (record { runs = true; code = whole_code formats schema first 2; width = width_of (code formats schema first 1) }) (record { runs = false; code = whole_code formats schema first 0; width = 0 })).code 0)
      go true = code_test (code formats schema first 2) (single formats schema first 2)
      go false = code_test (code formats schema first 0) (single formats schema first 0)

  pub type_plain : is_run_end (code formats schema first 0) ≡ false → rows_whole ≡ true → type_of formats schema first n ≡ t_plain (fixed (number_at (code formats schema first 0)))
  type_plain e h =
      let i = and_left (is_integer (code formats schema first 0)) (single formats schema first 0) h in
      type_as (tree_of formats schema first n) 7 0 (at_fixed formats schema first 0 (integer_fixed (code formats schema first 0) i) (and_right (is_integer (code formats schema first 0)) (single formats schema first 0) h))

  pub type_runs : is_run_end (code formats schema first 0) ≡ true → values_whole ≡ true
      → type_of formats schema first n ≡ t_run_end (width_of (code formats schema first 1)) (t_plain (fixed (number_at (code formats schema first 2))))
  type_runs e h =
      let i = and_left (is_integer (code formats schema first 2)) (single formats schema first 2) h in
      type_as (tree_of formats schema first n) 7 0 (run_over e).kind
      ∙ ap (t_run_end (width_of (code formats schema first 1)))
      (type_as (tree_of formats schema first n) 6 2 (at_fixed formats schema first 2 (integer_fixed (code formats schema first 2) i) (and_right (is_integer (code formats schema first 2)) (single formats schema first 2) h)))
