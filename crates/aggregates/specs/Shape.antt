-- What the code reads of a column's nodes before its rows. That it is what the type says is proofs/Types.antt. Assumes nothing.
use Rattle.std.specs.Prelude.{ℕ, true, false, cond, List, ◌==◌}
use Rattle.schema.specs.formats.Code.{is_integer, is_run_end, width_of}
use Rattle.schema.specs.Tree.{dictionary, code_of}
use Rattle.array_data.specs.Tables.{Tables, offset_of}
use Rattle.aggregates.specs.declared.stretches.Ends.{Ends}
use Rattle.aggregates.specs.stretches.Ends.{ends_of}
use Rattle.aggregates.specs.cells.Cells.{cells_of}
use Rattle.aggregates.specs.declared.cell_sums.Numbers.{Numbers}
use Rattle.aggregates.specs.declared.Shape.{Shape}

module _ (formats schema : List ℕ) (first : ℕ) where
  -- the code of a node of whole numbers; 0 where it is none
  unfoldable pub whole_code : ℕ → ℕ
  whole_code i = cond (dictionary schema first i == 0) (cond (is_integer (code_of formats schema first i)) (code_of formats schema first i) 0) 0

  -- a run-end column's run ends are its second node, and its values the third
  unfoldable pub shape_of : Shape
  shape_of =
      cond (is_run_end (code_of formats schema first 0))
      (record { runs = true; code = whole_code 2; width = width_of (code_of formats schema first 1) })
      (record { runs = false; code = whole_code 0; width = 0 })

abbrev pub no_ends : Ends
no_ends = record { start = 0; stop = 0; width = 0; offset = 0; len = 0 }

module _ (x : Tables) where
  abbrev pub plain_numbers : ℕ → Numbers
  plain_numbers code = record { runs = false; ends = no_ends; cells = cells_of x 0 code; skip = offset_of x 0 }

  abbrev pub run_numbers : ℕ → ℕ → Numbers
  run_numbers code w = record { runs = true; ends = ends_of x w; cells = cells_of x 2 code; skip = offset_of x 2 }

  unfoldable pub numbers_of : Shape → Numbers
  numbers_of s = cond s.runs (run_numbers s.code s.width) (plain_numbers s.code)
