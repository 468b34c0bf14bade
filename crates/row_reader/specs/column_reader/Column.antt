-- Reading a lent column outside a join: 01, "A call that reads one column outside a join meets 9, 10 and 12 for a malformed column before
-- any ground of its own." Assumes nothing.
use Rattle.std.specs.Prelude.{cond, List, ℕ, eqb}
use Rattle.array_data.specs.Tables.{Tables}
use Rattle.array_data.specs.Typed.{tables_from}
use Rattle.columns.specs.Grounds.{column_ground}
use Rattle.array_data.specs.node_words.Words.{planted}
use Rattle.slot_reader.specs.declared.RowRead.TheVariants as row
use Rattle.row_reader.specs.Walk.{Walked, walked_to, row_at}

module _ (formats schema : List ℕ) (x : Tables) (first n : ℕ) where
  -- the tree of an accepted column; what stood there before where it is refused
  unfoldable pub opened_tree : List ℕ → List ℕ
  opened_tree tree = cond (eqb (column_ground formats schema x first n) 0) (planted formats schema first n) tree

  -- ROW r: 9, 10 or 12 for a malformed column, then 2, then the row
  unfoldable pub read_row : ℕ → Walked
  read_row r =
      cond (eqb (column_ground formats schema x first n) 0)
      (row_at (planted formats schema first n) (tables_from x first) r)
      (walked_to (row.Refused (column_ground formats schema x first n)))
