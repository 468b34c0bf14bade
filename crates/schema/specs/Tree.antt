-- Lent type trees (docs/FORMAT.md): the nodes of a source in depth-first order, five numbers a node, and the formats that they name.
-- Grounds 9, 10 and 11 of 01 as far as they are about types. Assumes nothing.
use Rattle.std.specs.Prelude.{Bool, false, not, cond, ◌&&◌, ◌||◌, List, ℕ, zero, suc, ◌+◌, ◌*◌, ◌-◌, ◌/◌, ◌%◌, length, get_or, leb, ltb, eqb}
use Rattle.std.proofs.Math.Option.{Option, none, some}
use Rattle.columnar.specs.Row.{sum}
use Rattle.columnar.specs.Test.{every}
use Rattle.schema.specs.formats.Code.{code_at, is_integer, is_fixed, is_string, is_view, is_list_view, is_list, is_union, is_run_end}
use Rattle.schema.specs.union_ids.Ids.{ids_at, same_ids}

-- number j of node k's five; 0 where the table is too short
abbrev pub field : List ℕ → ℕ → ℕ → ℕ
field schema k j = get_or schema (5 * k + j) 0

-- ---- the nodes of a tree that stands in the table from node `first` on: node i of it is node first + i of the table
module _ (schema : List ℕ) (first : ℕ) where
  -- 1 where the field is nullable and else 0: ARROW_FLAG_NULLABLE is 2
  abbrev pub flag : ℕ → ℕ
  flag i = field schema (first + i) 2 / 2 % 2

  -- the field may hold nulls
  abbrev pub nullable : ℕ → Bool
  nullable i = eqb (flag i) 1

  -- how many children node i has
  abbrev pub children : ℕ → ℕ
  children i = field schema (first + i) 3

  -- 1 if node i has a dictionary and else 0; any other number is ground 10
  abbrev pub dictionary : ℕ → ℕ
  dictionary i = field schema (first + i) 4

  -- how many subtrees stand below node i ("Dictionary values .. count as a node")
  unfoldable pub below : ℕ → ℕ
  below i = children i + cond (eqb (dictionary i) 0) 0 1

  -- from node i on, with p subtrees still due and at most f nodes left: where they end
  unfoldable pub end_from : ℕ → ℕ → ℕ → ℕ
  end_from zero p i = i
  end_from (suc f) zero i = i
  end_from (suc f) (suc p) i = end_from f (p + below i) (suc i)

  -- a node with nothing below it
  unfoldable pub bare : ℕ → Bool
  bare i = eqb (children i) 0 && eqb (dictionary i) 0

  -- there are ids, and node i has a child for each
  abbrev pub child_for_each : Option (List ℕ) → ℕ → Bool
  child_for_each none i = false
  child_for_each (some ids) i = eqb (length ids) (children i)

  -- node i is a dictionary's values
  unfoldable pub is_values : ℕ → Bool
  is_values zero = false
  is_values (suc i) = eqb (dictionary i) 1

-- ---- a tree of n nodes
module _ (schema : List ℕ) (first n : ℕ) where
  -- where node i's subtree ends
  unfoldable pub end_of : ℕ → ℕ
  end_of i = end_from schema first (n - i) 1 i

  -- where the subtree below node i that has c others before it begins: behind the node, then one behind the other
  unfoldable pub child_at : ℕ → ℕ → ℕ
  child_at i zero = suc i
  child_at i (suc c) = end_of (child_at i c)

  -- "depth (the root is 1)": one more than the earlier nodes whose subtree it is in
  unfoldable pub depth : ℕ → ℕ
  depth i = suc (sum (λ j. cond (ltb i (end_of j)) 1 0) i)

  -- the nodes are one whole tree: the root's subtree takes n nodes, where it could take one more
  unfoldable pub whole : Bool
  whole = eqb (end_from schema first (suc n) 1 0) n

-- ---- with the formats that the nodes name
module _ (formats schema : List ℕ) (first : ℕ) where
  -- the code of node i's format; 0 where 01 does not admit it
  unfoldable pub code_of : ℕ → ℕ
  code_of i = code_at formats (field schema (first + i) 0) (field schema (first + i) 1)

  -- the ids of node i's format, where it is a union's
  unfoldable pub ids_of : ℕ → Option (List ℕ)
  ids_of i = ids_at formats (field schema (first + i) 0) (field schema (first + i) 1)

  -- "at most 16 union fields"
  unfoldable pub few_fields : ℕ → Bool
  few_fields i = not (is_union (code_of i)) || leb (children schema first i) 16

  -- "Dictionary values are fixed-width or byte strings"
  unfoldable pub values_shape : ℕ → Bool
  values_shape i = (is_fixed (code_of i) || is_string (code_of i)) && bare schema first i

  -- "Run ends are `s`, `i` or `l`."
  unfoldable pub ends_shape : ℕ → Bool
  ends_shape i = (eqb (code_of i) 3 || eqb (code_of i) 5 || eqb (code_of i) 7) && bare schema first i

  -- numbers, byte strings and views have nothing below them
  unfoldable pub leaf_shape : ℕ → Bool
  leaf_shape i = (is_fixed (code_of i) || is_string (code_of i) || is_view (code_of i)) && bare schema first i

  -- "an integer key format with a dictionary"
  unfoldable pub keys_shape : ℕ → Bool
  keys_shape i = is_integer (code_of i) && eqb (children schema first i) 0 && eqb (dictionary schema first i) 1 && values_shape (suc i)

  -- a list-view or list has one child
  unfoldable pub list_shape : ℕ → Bool
  list_shape i = (is_list_view (code_of i) || is_list (code_of i)) && eqb (children schema first i) 1 && eqb (dictionary schema first i) 0

  -- a union has a child for each id
  unfoldable pub union_shape : ℕ → Bool
  union_shape i = is_union (code_of i) && child_for_each schema first (ids_of i) i && eqb (dictionary schema first i) 0

  -- a run-end node has run ends and values
  unfoldable pub run_shape : ℕ → Bool
  run_shape i = is_run_end (code_of i) && eqb (children schema first i) 2 && eqb (dictionary schema first i) 0 && ends_shape (suc i)

  -- node i and what stands below it are of a type that 01 admits
  unfoldable pub shape : ℕ → Bool
  shape i = leaf_shape i || keys_shape i || list_shape i || union_shape i || run_shape i

module _ (formats schema : List ℕ) (first n : ℕ) where
  -- "at most 32 nodes, depth at most 8 .., at most 16 union fields": ground 9 where not
  unfoldable pub ceilings : Bool
  ceilings = leb n 32 && every (λ i. few_fields formats schema first i && leb (depth schema first n i) 8) n

  -- "type tree not one of those above, union ids included": ground 10 where not
  unfoldable pub typed : Bool
  typed = whole schema first n && every (shape formats schema first) n

-- ---- two trees of the table

-- the same flag, or one that says nothing of the type: the root's, and that of dictionary values
unfoldable pub same_flag : List ℕ → ℕ → ℕ → ℕ → Bool
same_flag schema first first' i = eqb i 0 || is_values schema first i || eqb (flag schema first i) (flag schema first' i)

module _ (formats schema : List ℕ) (first first' : ℕ) where
  -- the nodes i of both trees have the same format
  unfoldable pub same_formats : ℕ → Bool
  same_formats i =
      not (eqb (code_of formats schema first i) 0)
      && eqb (code_of formats schema first i) (code_of formats schema first' i)
      && (not (is_union (code_of formats schema first i)) || same_ids (ids_of formats schema first i) (ids_of formats schema first' i))

  -- .. and as many children, both a dictionary or neither, and the same flag
  unfoldable pub same_node : ℕ → Bool
  same_node i =
      same_formats i
      && eqb (children schema first i) (children schema first' i)
      && eqb (dictionary schema first i) (dictionary schema first' i)
      && same_flag schema first first' i

-- "types differ: formats, or flags of nodes other than the root and dictionary values": ground 11 where not the same
unfoldable pub same_type : List ℕ → List ℕ → ℕ → ℕ → ℕ → ℕ → Bool
same_type formats schema first n first' n' = eqb n n' && every (same_node formats schema first first') n
