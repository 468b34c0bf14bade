-- The encoder takes exactly the fixed-width columns, and the expansion the run-end columns of fixed-width values. Assumes nothing.
use mathlib.Core.Path.{◌≡◌, refl, sym, ap, ◌∙◌}
use mathlib.Core.Bool.{Bool, true, false, cond, ◌&&◌, ◌||◌, false≢true}
use mathlib.Core.List.{List}
use Prim.Native.Nat.{ℕ, suc}
use lib.Dec.{eqb}
use Rattle.columnar.specs.Types.{Number, fixed, string, Ty, t_plain, t_view, t_list_view, t_list, t_sparse, t_dense, t_run_end, t_dictionary}
use Rattle.schema.specs.formats.Code.{is_integer, is_fixed, is_string, is_view, is_list_view, is_list, is_union, is_run_end, width_of}
use Rattle.schema.specs.formats.Types.{number_of, number_or}
use Rattle.schema.specs.Tree.{children, dictionary, bare, child_for_each, code_of, ids_of, values_shape, ends_shape, leaf_shape, keys_shape, list_shape, union_shape, run_shape, shape, typed}
use Rattle.schema.proofs.Known.{typed_shape}
use Rattle.array_data.proofs.type_tree.ByKind.{ty_as, type_by_lem}
use Rattle.array_data.specs.NodeKinds.{NodeKind, fixed_node, string_node, view_node, list_view_node, list_node, sparse_node, dense_node, run_end_node, dictionary_node, kind_at}
use Rattle.array_data.specs.Typed.{Tree}
use Rattle.array_data.specs.type_tree.Lent.{tree_of, ty_of, type_of}
use Rattle.array_data.proofs.type_tree.Shaped.{five, integer_fixed, at_run}
use Rattle.array_data.proofs.lent_tables.Laws.{and_left}
use Rattle.aggregates.proofs.Types.{run_over}
use Rattle.coding.specs.Encode.{plain_at}
use Rattle.coding.specs.Expand.{runs_of_plain}
use Rattle.coding.proofs.Accepted.{root_in}
use Rattle.array_data.proofs.Names.{ids_or, number_kind, union_kind}

abbrev fixed_kind : NodeKind → Bool
fixed_kind (fixed_node m) = true
fixed_kind (string_node w) = false
fixed_kind view_node = false
fixed_kind (list_view_node w) = false
fixed_kind (list_node w) = false
fixed_kind (sparse_node ids) = false
fixed_kind (dense_node ids) = false
fixed_kind (run_end_node w) = false
fixed_kind (dictionary_node m) = false

-- a type of fixed-width numbers
abbrev pub fixed_type : Ty → Bool
fixed_type (t_plain (fixed k)) = true
fixed_type (t_plain (string w)) = false
fixed_type t_view = false
fixed_type (t_list_view w u) = false
fixed_type (t_list w u) = false
fixed_type (t_sparse ids nullable f) = false
fixed_type (t_dense ids nullable f) = false
fixed_type (t_run_end w u) = false
fixed_type (t_dictionary k p) = false

type_kind : (t : Tree) (sub : ℕ → Ty) (k : NodeKind) (i : ℕ) → fixed_type (ty_as t sub k i) ≡ fixed_kind k
type_kind t sub (fixed_node m) i = refl
type_kind t sub (string_node w) i = refl
type_kind t sub view_node i = refl
type_kind t sub (list_view_node w) i = refl
type_kind t sub (list_node w) i = refl
type_kind t sub (sparse_node ids) i = refl
type_kind t sub (dense_node ids) i = refl
type_kind t sub (run_end_node w) i = refl
type_kind t sub (dictionary_node m) i = refl

-- a format that 01 admits
abbrev known : ℕ → Bool
known c = is_fixed c || is_string c || is_view c || is_list_view c || is_list c || is_union c || is_run_end c

or_left : (a b : Bool) → a ≡ true → a || b ≡ true
or_left a b e = rw e

or_right : (a b : Bool) → b ≡ true → a || b ≡ true
or_right true b e = refl
or_right false b e = e

union_no : (b : Bool) (ids : List ℕ) → fixed_kind (union_kind b ids) ≡ false
union_no true ids = refl
union_no false ids = refl

-- of a known format, only a number's without a dictionary is fixed-width
only_fixed : (f s v l m u r single : Bool) (k : Number) (a b c w : ℕ) (un : Bool) (ids : List ℕ) (d : NodeKind) → f || s || v || l || m || u || r ≡ true
    → fixed_kind (cond f (number_kind single k) (cond s (string_node a) (cond v view_node (cond l (list_view_node b) (cond m (list_node c) (cond u (union_kind un ids) (cond r (run_end_node w) d))))))) ≡ f && single
only_fixed true s v l m u r true k a b c w un ids d h = refl
only_fixed true s v l m u r false k a b c w un ids d h = refl
only_fixed false true v l m u r single k a b c w un ids d h = refl
only_fixed false false true l m u r single k a b c w un ids d h = refl
only_fixed false false false true m u r single k a b c w un ids d h = refl
only_fixed false false false false true u r single k a b c w un ids d h = refl
only_fixed false false false false false true r single k a b c w un ids d h = union_no un ids
only_fixed false false false false false false true single k a b c w un ids d h = refl
only_fixed false false false false false false false single k a b c w un ids d h = absurd (false≢true h)

module _ (formats schema : List ℕ) (first i : ℕ) where
  abbrev code : ℕ
  code = code_of formats schema first i

  abbrev single : Bool
  single = eqb (dictionary schema first i) 0

  early : is_fixed code ≡ true → known code ≡ true
  early e = or_left (is_fixed code || is_string code || is_view code || is_list_view code || is_list code || is_union code) (is_run_end code)
      (or_left (is_fixed code || is_string code || is_view code || is_list_view code || is_list code) (is_union code)
      (or_left (is_fixed code || is_string code || is_view code || is_list_view code) (is_list code)
      (or_left (is_fixed code || is_string code || is_view code) (is_list_view code)
      (or_left (is_fixed code || is_string code) (is_view code) (or_left (is_fixed code) (is_string code) e)))))

  shape_known : shape formats schema first i ≡ true → known code ≡ true
  unfolding shape leaf_shape keys_shape list_shape union_shape run_shape bare
  shape_known h =
      five formats schema first
      (leaf_shape formats schema first i) (keys_shape formats schema first i) (list_shape formats schema first i) (union_shape formats schema first i) (run_shape formats schema first i)
      h leaf keys list union run
    where
      leaf : (is_fixed code || is_string code || is_view code) && (eqb (children schema first i) 0 && single) ≡ true → known code ≡ true
      leaf q =
          let p = and_left (is_fixed code || is_string code || is_view code) (eqb (children schema first i) 0 && single) q in
          or_left (is_fixed code || is_string code || is_view code || is_list_view code || is_list code || is_union code) (is_run_end code)
          (or_left (is_fixed code || is_string code || is_view code || is_list_view code || is_list code) (is_union code)
          (or_left (is_fixed code || is_string code || is_view code || is_list_view code) (is_list code) (or_left (is_fixed code || is_string code || is_view code) (is_list_view code) p)))

      keys : is_integer code && eqb (children schema first i) 0 && eqb (dictionary schema first i) 1 && values_shape formats schema first (suc i) ≡ true → known code ≡ true
      keys q =
          let p = and_left (is_integer code && eqb (children schema first i) 0 && eqb (dictionary schema first i) 1) (values_shape formats schema first (suc i)) q in
          early (integer_fixed code (and_left (is_integer code) (eqb (children schema first i) 0) (and_left (is_integer code && eqb (children schema first i) 0) (eqb (dictionary schema first i) 1) p)))

      lists : (l m : Bool) (a u r : Bool) → l || m ≡ true → a || l || m || u || r ≡ true
      lists true m true u r h = refl
      lists true m false u r h = refl
      lists false true true u r h = refl
      lists false true false u r h = refl
      lists false false a u r h = absurd (false≢true h)

      list : (is_list_view code || is_list code) && eqb (children schema first i) 1 && single ≡ true → known code ≡ true
      list q =
          lists (is_list_view code) (is_list code) (is_fixed code || is_string code || is_view code) (is_union code) (is_run_end code)
          (and_left (is_list_view code || is_list code) (eqb (children schema first i) 1) (and_left ((is_list_view code || is_list code) && eqb (children schema first i) 1) single q))

      union : is_union code && child_for_each schema first (ids_of formats schema first i) i && single ≡ true → known code ≡ true
      union q =
          or_left (is_fixed code || is_string code || is_view code || is_list_view code || is_list code || is_union code) (is_run_end code)
          (or_right (is_fixed code || is_string code || is_view code || is_list_view code || is_list code) (is_union code)
          (and_left (is_union code) (child_for_each schema first (ids_of formats schema first i) i) (and_left (is_union code && child_for_each schema first (ids_of formats schema first i) i) single q)))

      run : is_run_end code && eqb (children schema first i) 2 && single && ends_shape formats schema first (suc i) ≡ true → known code ≡ true
      run q =
          or_right (is_fixed code || is_string code || is_view code || is_list_view code || is_list code || is_union code) (is_run_end code)
          (and_left (is_run_end code) (eqb (children schema first i) 2) (and_left (is_run_end code && eqb (children schema first i) 2) single (and_left (is_run_end code && eqb (children schema first i) 2 && single) (ends_shape formats schema first (suc i)) q)))

  -- a node's kind is fixed-width exactly where it holds numbers and not keys
  kind_plain : shape formats schema first i ≡ true → fixed_kind (kind_at formats schema first i) ≡ plain_at formats schema first i
  unfolding kind_at plain_at
  kind_plain h =
      only_fixed (is_fixed code) (is_string code) (is_view code) (is_list_view code) (is_list code) (is_union code) (is_run_end code) single (number_or (number_of code)) (width_of code) (width_of code) (width_of code)
      (width_of (code_of formats schema first (suc i))) (eqb code 21) (ids_or (ids_of formats schema first i)) _ (shape_known h)

-- "ALL BUT A FIXED-WIDTH COLUMN": the encoder's test of a typed column is whether its type is fixed-width
pub plain_exact : (formats schema : List ℕ) (first n : ℕ) → typed formats schema first n ≡ true → plain_at formats schema first 0 ≡ fixed_type (type_of formats schema first n)
plain_exact formats schema first n t =
    sym (kind_plain formats schema first 0 (typed_shape formats schema first n t 0 (root_in formats schema first n t)))
    ∙ sym (type_kind (tree_of formats schema first n) (ty_of (tree_of formats schema first n) 7) (kind_at formats schema first 0) 0)
    ∙ sym (ap fixed_type (type_by_lem (tree_of formats schema first n) 7 0))

-- ---- run-end columns

abbrev run_kind : NodeKind → Bool
run_kind (fixed_node m) = false
run_kind (string_node w) = false
run_kind view_node = false
run_kind (list_view_node w) = false
run_kind (list_node w) = false
run_kind (sparse_node ids) = false
run_kind (dense_node ids) = false
run_kind (run_end_node w) = true
run_kind (dictionary_node m) = false

-- a type of runs of fixed-width numbers
abbrev pub runs_type : Ty → Bool
runs_type (t_plain p) = false
runs_type t_view = false
runs_type (t_list_view w u) = false
runs_type (t_list w u) = false
runs_type (t_sparse ids nullable f) = false
runs_type (t_dense ids nullable f) = false
runs_type (t_run_end w u) = fixed_type u
runs_type (t_dictionary k p) = false

runs_kind_lem : (t : Tree) (sub : ℕ → Ty) (k : NodeKind) (i : ℕ) → runs_type (ty_as t sub k i) ≡ run_kind k && fixed_type (sub (suc (suc i)))
runs_kind_lem t sub (fixed_node m) i = refl
runs_kind_lem t sub (string_node w) i = refl
runs_kind_lem t sub view_node i = refl
runs_kind_lem t sub (list_view_node w) i = refl
runs_kind_lem t sub (list_node w) i = refl
runs_kind_lem t sub (sparse_node ids) i = refl
runs_kind_lem t sub (dense_node ids) i = refl
runs_kind_lem t sub (run_end_node w) i = refl
runs_kind_lem t sub (dictionary_node m) i = refl

number_no : (b : Bool) (k : Number) → run_kind (number_kind b k) ≡ false
number_no true k = refl
number_no false k = refl

union_none : (b : Bool) (ids : List ℕ) → run_kind (union_kind b ids) ≡ false
union_none true ids = refl
union_none false ids = refl

no_runs : (f s v l m u r single : Bool) (k : Number) (a b c w : ℕ) (un : Bool) (ids : List ℕ) (d : NodeKind) → f || s || v || l || m || u || r ≡ true → r ≡ false
    → run_kind (cond f (number_kind single k) (cond s (string_node a) (cond v view_node (cond l (list_view_node b) (cond m (list_node c) (cond u (union_kind un ids) (cond r (run_end_node w) d))))))) ≡ false
no_runs true s v l m u r single k a b c w un ids d h e = number_no single k
no_runs false true v l m u r single k a b c w un ids d h e = refl
no_runs false false true l m u r single k a b c w un ids d h e = refl
no_runs false false false true m u r single k a b c w un ids d h e = refl
no_runs false false false false true u r single k a b c w un ids d h e = refl
no_runs false false false false false true r single k a b c w un ids d h e = union_none un ids
no_runs false false false false false false true single k a b c w un ids d h e = absurd (false≢true (sym e))
no_runs false false false false false false false single k a b c w un ids d h e = absurd (false≢true h)

module _ (formats schema : List ℕ) (first i : ℕ) where
  kind_run : shape formats schema first i ≡ true → (b : Bool) → is_run_end (code_of formats schema first i) ≡ b → run_kind (kind_at formats schema first i) ≡ b
  unfolding kind_at
  kind_run h true e = ap run_kind (at_run formats schema first i e)
  kind_run h false e =
      let c = code_of formats schema first i in
      no_runs (is_fixed c) (is_string c) (is_view c) (is_list_view c) (is_list c) (is_union c) (is_run_end c) (eqb (dictionary schema first i) 0) (number_or (number_of c)) (width_of c) (width_of c) (width_of c)
      (width_of (code_of formats schema first (suc i))) (eqb c 21) (ids_or (ids_of formats schema first i)) _ (shape_known formats schema first i h) e

-- "A RUN-END COLUMN OF FIXED-WIDTH VALUES": the expansion's test of a typed column is whether its type is one
pub runs_exact : (formats schema : List ℕ) (first target n : ℕ) → typed formats schema first n ≡ true → runs_of_plain formats schema first target ≡ runs_type (type_of formats schema first n)
unfolding runs_of_plain
runs_exact formats schema first target n t =
    go (is_run_end (code_of formats schema first 0)) refl
    ∙ sym (ap (λ u. run_kind (kind_at formats schema first 0) && fixed_type u) (type_by_lem (tree_of formats schema first n) 6 2))
    ∙ sym (runs_kind_lem (tree_of formats schema first n) (ty_of (tree_of formats schema first n) 7) (kind_at formats schema first 0) 0)
    ∙ sym (ap runs_type (type_by_lem (tree_of formats schema first n) 7 0))
  where
    root : shape formats schema first 0 ≡ true
    root = typed_shape formats schema first n t 0 (root_in formats schema first n t)

    go : (b : Bool) → is_run_end (code_of formats schema first 0) ≡ b
        → b && plain_at formats schema first 2 ≡ run_kind (kind_at formats schema first 0) && fixed_type (ty_as (tree_of formats schema first n) (ty_of (tree_of formats schema first n) 6) (kind_at formats schema first 2) 2)
    go true e =
        rw (kind_run formats schema first 0 root true e)
        (sym (kind_plain formats schema first 2 (typed_shape formats schema first n t 2 (run_over formats schema first n t e).values_in))
        ∙ sym (type_kind (tree_of formats schema first n) (ty_of (tree_of formats schema first n) 6) (kind_at formats schema first 2) 2))
    go false e = rw (kind_run formats schema first 0 root false e) refl
