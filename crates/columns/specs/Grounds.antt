-- Grounds 9, 10, 11 and 12 of lent columns (01, "Grounds of refusal"; docs/FORMAT.md). Assumes nothing.
use Rattle.std.specs.Prelude.{Bool, true, false, not, cond, ◌&&◌, ◌||◌, List, ℕ, ◌+◌, ◌-◌, ◌*◌, ◌/◌, ◌^◌, length, get_or, leb, ltb}
use Rattle.columnar.specs.Types.{Ty}
use Rattle.columnar.specs.Test.{test, every}
use Rattle.schema.specs.formats.Code.{is_view}
use Rattle.schema.specs.Tree.{code_of, ceilings, typed, same_type}
use Rattle.array_data.specs.Tables.{Tables, length_of, offset_of, place}
use Rattle.array_data.specs.Sources.{source_count, first_of, nodes_of}
use Rattle.array_data.specs.Typed.{Tree, column_of, tables_from, source_rule, placed}
use Rattle.array_data.specs.type_tree.Lent.{tree_of, type_of}

-- "Length and offset are not negative, their sum at most 2^63−1": both are two's complement, so that a negative one is 2^63 or more
unfoldable pub count_fits : Tables → ℕ → Bool
count_fits x k = ltb (offset_of x k + length_of x k) (2 ^ 63)

-- "Each body has at most 2^63−1 bytes"
abbrev pub ceiling : ℕ
ceiling = 2 ^ 63 - 1

unfoldable pub small_body : List ℕ → Bool
small_body body = leb (length body) ceiling

module _ (formats schema : List ℕ) (x : Tables) where
  -- "at most 32 data buffers per view node and source"
  unfoldable pub few_buffers : ℕ → ℕ → Bool
  few_buffers first i = not (is_view (code_of formats schema first i)) || leb (place x (first + i) 8) 32

  unfoldable pub node_fits : ℕ → ℕ → Bool
  node_fits first i = count_fits x (first + i) && few_buffers first i

  -- n nodes from node `first` on pass no ceiling and have no negative length or offset: ground 9 where not
  unfoldable pub within_ceilings : ℕ → ℕ → Bool
  within_ceilings first n = ceilings formats schema first n && every (node_fits first) n

  -- "a source breaks the rules above", node by node: ground 12 where not
  unfoldable pub obeys : ℕ → ℕ → Bool
  obeys first n = source_rule (tree_of formats schema first n) (tables_from x first)

  -- THE GROUND OF ONE COLUMN; 0 where it is accepted
  unfoldable pub column_ground : ℕ → ℕ → ℕ
  column_ground first n = cond (small_body x.body && within_ceilings first n) (cond (typed formats schema first n) (cond (obeys first n) 0 12) 10) 9

-- ---- the sources of a join

-- "A source the opening takes", of type u: every buffer lies in the body, and the column that the tables describe passes the test of a source
unfoldable pub lawful : Tree → Tables → Ty → Bool
lawful t x u = every (placed t x) t.count && test u (column_of t x u 0)

-- "1 to 16 sources"
unfoldable pub few_sources : List ℕ → Bool
few_sources sources = leb 1 (source_count sources) && leb (source_count sources) 16

module _ (formats schema sources : List ℕ) where
  -- ground 10 where not
  unfoldable pub all_typed : Bool
  all_typed = every (λ s. typed formats schema (first_of sources s) (nodes_of sources s)) (source_count sources)

  -- "types differ": each is of source 0's type; ground 11 where not
  unfoldable pub all_same : Bool
  all_same = every (λ s. same_type formats schema (first_of sources 0) (nodes_of sources 0) (first_of sources s) (nodes_of sources s)) (source_count sources)

module _ (formats schema : List ℕ) (x : Tables) (sources : List ℕ) where
  -- ground 9 where not
  unfoldable pub all_within : Bool
  all_within = every (λ s. within_ceilings formats schema x (first_of sources s) (nodes_of sources s)) (source_count sources)

  -- "a source breaks the rules above": each is a source of source 0's type; ground 12 where not
  unfoldable pub all_lawful : Bool
  all_lawful =
      every (λ s. lawful (tree_of formats schema (first_of sources s) (nodes_of sources s)) (tables_from x (first_of sources s)) (type_of formats schema (first_of sources 0) (nodes_of sources 0))) (source_count sources)

  -- the same node by node, where 9, 10 and 11 do not stand (proofs/Grounds.antt)
  unfoldable pub all_obey : Bool
  all_obey = every (λ s. obeys formats schema x (first_of sources s) (nodes_of sources s)) (source_count sources)

  -- THE GROUND OF ALL SOURCES: 9 of any before 10 of any, and so on; 0 where they are accepted
  unfoldable pub sources_ground : ℕ
  sources_ground =
      cond (small_body x.body && few_sources sources && all_within)
      (cond (all_typed formats schema sources) (cond (all_same formats schema sources) (cond all_lawful 0 12) 11) 10)
      9
