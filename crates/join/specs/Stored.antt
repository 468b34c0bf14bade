-- The lent tables of a source that is stored wider (01: "in a format reaching higher, with every entry, bit and length kept"), beside those
-- of the narrow one: the same tree node by node. What the buffers hold is said of the columns (columnar/specs/Wider.antt). Assumes nothing.
use Rattle.std.specs.Prelude.{◌≡◌, Bool, true, false, ◌||◌, List, ℕ, zero, suc, ◌+◌, ◌≤◌, ◌<◌, T, eqb}
use Rattle.columnar.specs.Types.{limit}
use Rattle.schema.specs.formats.Code.{is_integer, is_string, is_view, is_list_view, is_list, is_union, is_run_end, width_of}
use Rattle.schema.specs.formats.Types.{number_of, number_or}
use Rattle.schema.specs.Tree.{flag, children, dictionary, is_values, code_of, ids_of, same_formats}
use Rattle.array_data.specs.Tables.{Tables, length_of, offset_of, place}
use Rattle.array_data.specs.Typed.{tables_from, placed}
use Rattle.array_data.specs.type_tree.Lent.{tree_of}
use Rattle.columns.specs.Grounds.{small_body}
use Rattle.array_data.specs.Sources.{first_of, nodes_of}
use Rattle.join.specs.Join.{Lending, sources_in}

-- "Run ends are `s`, `i` or `l`."
abbrev pub is_ends : ℕ → Bool
is_ends c = eqb c 3 || eqb c 5 || eqb c 7

-- The codes of two formats (formats/specs/Code.antt): the same, or the second one reaches as high, where they are a byte string's offsets, a
-- list-view's or list's, the keys of a node that has a dictionary, or run ends, which stand behind a run-end node.
pub data CodeWider (keyed ended : Bool) (c c' : ℕ) : Type 0 where
  same_code : c ≡ c' → CodeWider keyed ended c c'
  strings : is_string c ≡ true → is_string c' ≡ true → width_of c ≤ width_of c' → CodeWider keyed ended c c'
  list_views : is_list_view c ≡ true → is_list_view c' ≡ true → width_of c ≤ width_of c' → CodeWider keyed ended c c'
  plain_lists : is_list c ≡ true → is_list c' ≡ true → width_of c ≤ width_of c' → CodeWider keyed ended c c'
  keys : keyed ≡ true → is_integer c ≡ true → is_integer c' ≡ true → limit (number_or (number_of c)) ≤ limit (number_or (number_of c')) → CodeWider keyed ended c c'
  run_ends_lem : ended ≡ true → is_ends c ≡ true → is_ends c' ≡ true → width_of c ≤ width_of c' → CodeWider keyed ended c c'

-- node i is run ends
abbrev pub ends_at : List ℕ → List ℕ → ℕ → ℕ → Bool
ends_at formats schema first zero = false
ends_at formats schema first (suc i) = is_run_end (code_of formats schema first i)

-- node i of a source and of the one stored wider, whose nodes stand from `first` and from `first'` on
pub record NodeWider (formats schema : List ℕ) (x : Tables) (first : ℕ) (formats' schema' : List ℕ) (x' : Tables) (first' : ℕ) (i : ℕ) : Type 0 where
  pub same_children : children schema first i ≡ children schema' first' i
  pub same_dictionary : dictionary schema first i ≡ dictionary schema' first' i
  pub same_flag_lem : (i ≡ 0 → ⊥) → is_values schema first i ≡ false → flag schema first i ≡ flag schema' first' i
  pub wider_code : CodeWider (eqb (dictionary schema first i) 1) (ends_at formats schema first i) (code_of formats schema first i) (code_of formats' schema' first' i)
  pub same_ids_lem : is_union (code_of formats schema first i) ≡ true → ids_of formats schema first i ≡ ids_of formats' schema' first' i
  pub same_length : length_of x (first + i) ≡ length_of x' (first' + i)
  pub same_offset : offset_of x (first + i) ≡ offset_of x' (first' + i)
  pub same_buffers : is_view (code_of formats schema first i) ≡ true → place x (first + i) 8 ≡ place x' (first' + i) 8  -- as many data buffers

-- THE TABLES OF A JOIN n AND OF THE WIDE ONE w: as many nodes in each source, each node as above; wider "alike in every source"; and what they name is there:
-- "every buffer lies in the body", in a body that 01's ceiling allows
pub record StoredWider (n w : Lending) : Type 0 where
  pub same_count : sources_in n ≡ sources_in w
  pub same_nodes : (s : ℕ) → s < sources_in n → nodes_of n.sources s ≡ nodes_of w.sources s
  pub node_wider : (s i : ℕ) → s < sources_in n → i < nodes_of n.sources s
      → NodeWider n.formats n.schema n.tables (first_of n.sources s) w.formats w.schema w.tables (first_of w.sources s) i
  pub alike : (s i : ℕ) → s < sources_in w → i < nodes_of w.sources 0
      → same_formats w.formats w.schema (first_of w.sources 0) (first_of w.sources s) i ≡ true
  pub in_body_lem : (s i : ℕ) → s < sources_in w → i < nodes_of w.sources s
      → T (placed (tree_of w.formats w.schema (first_of w.sources s) (nodes_of w.sources s)) (tables_from w.tables (first_of w.sources s)) i)
  pub small_body_lem : small_body w.tables.body ≡ true
