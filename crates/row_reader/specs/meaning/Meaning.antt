-- The row of crate `columnar` that an answer of `row_reader` stands for. Assumes nothing.
use Rattle.std.specs.Prelude.{List, [], ◌∷◌, ℕ}
use Rattle.columnar.specs.Row.{Row, null, bytes, list, union, rows, seg}
use Rattle.columnar.specs.Types.{Ty, t_plain, t_view, t_list_view, t_list, t_sparse, t_dense, t_run_end, t_dictionary}
use Rattle.columnar.specs.Reading.{read}
use Rattle.array_data.specs.Tables.{Tables, part}
use Rattle.array_data.specs.Typed.{Tree, column_of}
use Rattle.slot_reader.specs.leaf_row.Reading.{leaf_row_of}
use Rattle.slot_reader.specs.declared.RowRead.{RowRead}
use Rattle.slot_reader.specs.declared.RowRead.TheVariants as row

-- a number, or bytes of the body
abbrev pub flat : List ℕ → RowRead → Row
flat body row.Null = null
flat body (row.Number l) = leaf_row_of l
flat body (row.Bytes at len) = bytes (part body at len)
flat body (row.List i a n) = null
flat body (row.Refused g) = null

-- a list of rows of the node that the answer names
abbrev pub list_row : (ℕ → ℕ → Row) → RowRead → Row
list_row kid row.Null = null
list_row kid (row.Number l) = null
list_row kid (row.Bytes at len) = null
list_row kid (row.List i a n) = list (rows (seg (kid i) a n))
list_row kid (row.Refused g) = null

module _ (t : Tree) (x : Tables) where
  -- THE ROW of an answer in a column of this type, with the ids of the unions on the way to it
  abbrev pub meaning : Ty → List ℕ → RowRead → Row
  meaning (t_plain p) ids r = flat x.body r
  meaning t_view ids r = flat x.body r
  meaning (t_list_view w u) ids r = list_row (λ i. read u (column_of t x u i)) r
  meaning (t_list w u) ids r = list_row (λ i. read u (column_of t x u i)) r
  meaning (t_sparse us nullable f) [] r = null
  meaning (t_sparse us nullable f) (c ∷ ids) r = union c (meaning (f c) ids r)
  meaning (t_dense us nullable f) [] r = null
  meaning (t_dense us nullable f) (c ∷ ids) r = union c (meaning (f c) ids r)
  meaning (t_run_end w u) ids r = meaning u ids r
  meaning (t_dictionary k p) ids r = flat x.body r
