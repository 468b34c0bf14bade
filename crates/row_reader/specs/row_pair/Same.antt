-- Whether two rows of lent columns of numbers read the same: 01, "A leaf row is null, a whole number, an f32 or an f64; floats are equal when
-- their bits are", over rows as crate `columnar` reads them, so that runs, offsets and widths are no part of what is asked. Assumes nothing.
use Rattle.std.specs.Prelude.{Bool, true, false, cond, ◌&&◌, List, ℕ, ltb, eqb, Result, Ok, Err}
use Rattle.columnar.specs.Row.{Row}
use Rattle.columnar.specs.Types.{fixed, string, Ty, t_plain, t_view, t_list_view, t_list, t_sparse, t_dense, t_run_end, t_dictionary}
use Rattle.columnar.specs.Reading.{read}
use Rattle.schema.specs.formats.Code.{is_fixed, is_run_end}
use Rattle.schema.specs.Tree.{dictionary, code_of}
use Rattle.array_data.specs.Tables.{Tables, length_of}
use Rattle.array_data.specs.Typed.{column_of, tables_from}
use Rattle.array_data.specs.type_tree.Lent.{tree_of, type_of}
use Rattle.columns.specs.Grounds.{column_ground}
use Rattle.columns.specs.column_pair.Pair.{pair_ground}
use Rattle.slot_reader.specs.leaf_row.Reading.{key_of}
use Rattle.slot_reader.specs.declared.leaf_row.Leaf.{Leaf}
use Rattle.slot_reader.specs.declared.leaf_row.Leaf.TheVariants as leaf
use Rattle.slot_reader.specs.declared.RowRead.{RowRead}
use Rattle.slot_reader.specs.declared.RowRead.TheVariants as row

-- the leaf of what was read; null where it is none
abbrev pub leaf_in : RowRead → Leaf
leaf_in row.Null = leaf.Null
leaf_in (row.Number l) = l
leaf_in (row.Bytes at len) = leaf.Null
leaf_in (row.List i a n) = leaf.Null
leaf_in (row.Refused g) = leaf.Null

-- two leaf rows are the same: their keys are, which tell a leaf's row from every other (`same-is`, proofs/row_pair/Leaves.antt)
unfoldable pub same_leaf : Row → Row → Bool
same_leaf r s = eqb (key_of r).kind (key_of s).kind && eqb (key_of r).bits (key_of s).bits

-- ---- which columns

-- c C s S i I l L f g, without a dictionary
abbrev pub number_plain : Ty → Bool
number_plain (t_plain (fixed m)) = true
number_plain (t_plain (string w)) = false
number_plain t_view = false
number_plain (t_list_view w u) = false
number_plain (t_list w u) = false
number_plain (t_sparse ids nullable f) = false
number_plain (t_dense ids nullable f) = false
number_plain (t_run_end w u) = false
number_plain (t_dictionary k p) = false

-- a column of numbers, or a run-end column of numbers: 10 for all others
abbrev pub number_type : Ty → Bool
number_type (t_plain p) = number_plain (t_plain p)
number_type t_view = false
number_type (t_list_view w u) = false
number_type (t_list w u) = false
number_type (t_sparse ids nullable f) = false
number_type (t_dense ids nullable f) = false
number_type (t_run_end w u) = number_plain u
number_type (t_dictionary k p) = false

-- what the code reads of a column's nodes; that it is what the type says is `numbers-are` (proofs/row_pair/Types.antt)
module _ (formats schema : List ℕ) (first : ℕ) where
  unfoldable pub number_node : ℕ → Bool
  number_node i = eqb (dictionary schema first i) 0 && is_fixed (code_of formats schema first i)

  -- the values of a run-end column are its third node
  unfoldable pub of_numbers : Bool
  of_numbers = cond (is_run_end (code_of formats schema first 0)) (number_node 2) (number_node 0)

-- ---- two rows

module _ (formats schema : List ℕ) (x : Tables) where
  -- row r of the lent column of n nodes that begins at node `first`
  unfoldable pub row_of : ℕ → ℕ → ℕ → Row
  row_of first n r = read (type_of formats schema first n) (column_of (tree_of formats schema first n) (tables_from x first) (type_of formats schema first n) 0) r

  -- row r of the column of n nodes at node a, and row s of that of m nodes at node b
  module _ (a n b m r s : ℕ) where
    abbrev pub both_ground : ℕ
    both_ground = pair_ground (column_ground formats schema x a n) (column_ground formats schema x b m)

    -- 9, 10 and 12 of malformed columns, then 2 and 10, "each .. asked of both before the next"; 0 where none stands
    unfoldable pub rows_ground : ℕ
    rows_ground =
        cond (eqb both_ground 0)
        (cond (ltb r (length_of (tables_from x a) 0) && ltb s (length_of (tables_from x b) 0))
        (cond (number_type (type_of formats schema a n) && number_type (type_of formats schema b m)) 0 10)
        2)
        both_ground

    -- WHETHER BOTH ROWS READ THE SAME, or the ground
    unfoldable pub same_row : Result Bool ℕ
    same_row = cond (eqb rows_ground 0) (Ok (same_leaf (row_of a n r) (row_of b m s))) (Err rows_ground)
