-- Cells of slots that stand one behind the other, and bits that choose among them. Assumes nothing.
use Rattle.std.specs.Prelude.{ℕ, Bool, cond, List, ◌==◌}
use Rattle.aggregates.specs.declared.tally.Cell.{Cell}
use Rattle.aggregates.specs.tally.Cells.{cell}
use Rattle.aggregates.specs.declared.cells.Cells.{Cells}
use Rattle.aggregates.specs.cells.Cells.{valid_at, pattern_cell, pattern_at}

-- a slot's cell, whatever its validity
abbrev pub number_cell : List ℕ → Cells → ℕ → Cell
number_cell body c slot = pattern_cell c.top (pattern_at body c slot)

-- a cell where the bit is 1
unfoldable pub kept_cell : ℕ → Cell → Cell
kept_cell b c = cond (b == 0) (cell 0 0 0) c

abbrev pub as_bit : Bool → ℕ
as_bit v = cond v 1 0

-- 1 where the slot is valid
abbrev pub valid_bit : List ℕ → Cells → ℕ → ℕ
valid_bit body c slot = as_bit (valid_at body c slot)
