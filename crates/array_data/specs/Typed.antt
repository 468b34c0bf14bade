-- The type that a node of a tree stands for, and the column that lent tables describe there. Assumes nothing.
use Rattle.std.specs.Prelude.{◌≡◌, Bool, not, cond, ◌&&◌, ◌||◌, ℕ, zero, suc, ◌*◌, ◌<◌, drop, eqb}
use mathlib.Core.List.{List, [], ◌∷◌, ◌++◌, Memᴰ}
use Rattle.columnar.specs.Types.{Number, width, Plain, fixed, string, Ty, t_plain, t_view, t_list_view, t_list, t_sparse, t_dense, t_run_end, t_dictionary}
use Rattle.columnar.specs.Array.{null_count_of}
use Rattle.columnar.specs.Plain.{PlainBody}
use Rattle.columnar.specs.Reading.{Body, Column}
use Rattle.columnar.specs.Test.{every, only_if}
use Rattle.schema.specs.formats.Code.{is_string, is_view, is_list_view, is_dense, is_run_end}
use Rattle.schema.specs.Tree.{nullable, end_of, code_of}
use Rattle.array_data.specs.Tables.{Tables, place, first_buffer, second_buffer, data_buffers, array_with, held, in_body, valid_in}
use Rattle.array_data.specs.NodeKinds.{NodeKind, fixed_node, string_node, view_node, list_view_node, list_node, sparse_node, dense_node, run_end_node, dictionary_node, kind_at}
use Rattle.array_data.specs.Rules.{buffers_in, fixed_rule, string_rule, view_rule, list_view_rule, list_rule, sparse_rule, dense_rule, run_end_rule, dictionary_rule}

-- a type tree (docs/FORMAT.md): `count` nodes in depth-first order, which stand in the schema from node `first` on
pub record Tree : Type 0 where
  pub formats : List ℕ
  pub schema : List ℕ
  pub first : ℕ
  pub count : ℕ

-- where node i's subtree ends
abbrev pub subtree_end : Tree → ℕ → ℕ
subtree_end t i = end_of t.schema t.first t.count i

-- whether node i is nullable
abbrev pub nullable_in : Tree → ℕ → Bool
nullable_in t i = nullable t.schema t.first i

-- its kind
abbrev pub kind_in : Tree → ℕ → NodeKind
kind_in t i = kind_at t.formats t.schema t.first i

-- child number j of node i
abbrev pub child_node : Tree → ℕ → ℕ → ℕ
child_node t i zero = suc i
child_node t i (suc j) = end_of t.schema t.first t.count (child_node t i j)

-- which field has id c
abbrev pub field_of : List ℕ → ℕ → ℕ
field_of [] c = 0
field_of (d ∷ ds) c = cond (eqb c d) 0 (suc (field_of ds c))

abbrev pub node_of : Tree → ℕ → List ℕ → ℕ → ℕ
node_of t i ids c = child_node t i (field_of ids c)

-- node i is one of the tree's, and of this kind
abbrev pub Is : Tree → ℕ → NodeKind → Type 0
Is t i k = (i < t.count) × (kind_in t i ≡ k)

abbrev pub MeansPlain : Tree → Plain → ℕ → Type 0
MeansPlain t (fixed n) i = Is t i (fixed_node n)
MeansPlain t (string w) i = Is t i (string_node w)

-- run ends of w bytes
pub record MeansEnds (t : Tree) (w i : ℕ) : Type 0 where
  pub number : Number
  pub is_ends_lem : Is t i (fixed_node number)
  pub wide : width number ≡ w

-- NODE i STANDS FOR A TYPE
abbrev pub Means : Tree → Ty → ℕ → Type 0
Means t (t_plain p) i = MeansPlain t p i
Means t t_view i = Is t i view_node
Means t (t_list_view w u) i = Is t i (list_view_node w) × Means t u (suc i)
Means t (t_list w u) i = Is t i (list_node w) × Means t u (suc i)
Means t (t_sparse ids nullable f) i =
    Is t i (sparse_node ids) × ((c : ℕ) → Memᴰ c ids → (nullable c ≡ nullable_in t (node_of t i ids c)) × Means t (f c) (node_of t i ids c))
Means t (t_dense ids nullable f) i =
    Is t i (dense_node ids) × ((c : ℕ) → Memᴰ c ids → (nullable c ≡ nullable_in t (node_of t i ids c)) × Means t (f c) (node_of t i ids c))
Means t (t_run_end w u) i = Is t i (run_end_node w) × MeansEnds t w (suc i) × Means t u (suc (suc i))
Means t (t_dictionary k p) i = Is t i (dictionary_node k) × MeansPlain t p (suc i)

-- one list after another
abbrev pub all_of : (ℕ → List ℕ) → List ℕ → List ℕ
all_of f [] = []
all_of f (c ∷ cs) = f c ++ all_of f cs

-- ---- the column that a source's tables describe at node i

-- a source's tables are those from its first node on
abbrev pub tables_from : Tables → ℕ → Tables
tables_from x first = record { lengths = drop (2 * first) x.lengths; places = drop (9 * first) x.places; buffers = x.buffers; body = x.body }

-- where the validity and the buffers begin, for `ptr_eq`
module _ (x : Tables) where
  -- one more than where the validity begins; 0 where there is none: "Validity with no zero bit among the rows counts as absent."
  abbrev pub valid_start : ℕ → ℕ
  valid_start i = cond (eqb (null_count_of {B = Unit {0}} (array_with x tt i)) 0) 0 (suc (place x i 1))

  abbrev pub starts : Plain → ℕ → List ℕ
  starts (fixed n) i = valid_start i ∷ place x i 3 ∷ []
  starts (string w) i = valid_start i ∷ place x i 3 ∷ place x i 5 ∷ []

module _ (t : Tree) (x : Tables) where
  abbrev pub plain_body : (p : Plain) → ℕ → PlainBody p
  plain_body (fixed n) i = first_buffer x i
  plain_body (string w) i = record { offsets = first_buffer x i; chars = second_buffer x i }

  abbrev pub body_of : (u : Ty) → ℕ → Body u
  body_of (t_plain p) i = plain_body p i
  body_of t_view i = record { views = first_buffer x i; buffers = data_buffers x i }
  body_of (t_list_view w u) i = record { offsets = first_buffer x i; sizes = second_buffer x i; child = array_with x (body_of u (suc i)) (suc i) }
  body_of (t_list w u) i = record { offsets = first_buffer x i; child = array_with x (body_of u (suc i)) (suc i) }
  body_of (t_sparse ids nullable f) i = record { ids = first_buffer x i; children = λ c. array_with x (body_of (f c) (node_of t i ids c)) (node_of t i ids c) }
  body_of (t_dense ids nullable f) i =
      record { ids = first_buffer x i; positions = second_buffer x i; children = λ c. array_with x (body_of (f c) (node_of t i ids c)) (node_of t i ids c) }
  body_of (t_run_end w u) i = record { ends = array_with x (first_buffer x (suc i)) (suc i); values = array_with x (body_of u (suc (suc i))) (suc (suc i)) }
  body_of (t_dictionary k p) i = record { keys = first_buffer x i; values = array_with x (plain_body p (suc i)) (suc i); starts = starts x p (suc i) }

  -- THE COLUMN AT NODE i
  abbrev pub column_of : (u : Ty) → ℕ → Column u
  column_of u i = array_with x (body_of u i) i

  -- ---- ground 12, node by node

  abbrev pub kind_rule : NodeKind → ℕ → Bool
  kind_rule (fixed_node n) i = fixed_rule x i n
  kind_rule (string_node w) i = string_rule x i w
  kind_rule view_node i = view_rule x i
  kind_rule (list_view_node w) i = list_view_rule x i w
  kind_rule (list_node w) i = list_rule x i w
  kind_rule (sparse_node ids) i = sparse_rule x i ids (node_of t i ids)
  kind_rule (dense_node ids) i = dense_rule x i ids (node_of t i ids)
  kind_rule (run_end_node w) i = run_end_rule x i w
  kind_rule (dictionary_node n) i = dictionary_rule x i n

  abbrev pub node_rule : ℕ → Bool
  node_rule i = kind_rule (kind_in t i) i

  -- THE SOURCE OBEYS: every node does
  abbrev pub source_rule : Bool
  source_rule = every node_rule t.count

  -- ---- what of the rules is about the lent memory: the tables have node i, and its validity and buffers lie in the body

  abbrev pub placed : ℕ → Bool
  placed i =
      let code = code_of t.formats t.schema t.first i in
      held x i && valid_in x i
      && only_if (not (is_run_end code)) (in_body x (place x i 3) (place x i 4))
      && only_if (is_string code || is_list_view code || is_dense code) (in_body x (place x i 5) (place x i 6))
      && only_if (is_view code) (buffers_in x i)

  -- the nodes of a subtree
  abbrev pub nodes : Ty → ℕ → List ℕ
  nodes (t_plain p) i = i ∷ []
  nodes t_view i = i ∷ []
  nodes (t_list_view w u) i = i ∷ nodes u (suc i)
  nodes (t_list w u) i = i ∷ nodes u (suc i)
  nodes (t_sparse ids nullable f) i = i ∷ all_of (λ c. nodes (f c) (node_of t i ids c)) ids
  nodes (t_dense ids nullable f) i = i ∷ all_of (λ c. nodes (f c) (node_of t i ids c)) ids
  nodes (t_run_end w u) i = i ∷ suc i ∷ nodes u (suc (suc i))
  nodes (t_dictionary k p) i = i ∷ suc i ∷ []
