-- The slots of a whole-number node as they stand in the body. Assumes nothing.
use Rattle.std.specs.Prelude.{◌≡◌, ℕ, ◌+◌, ◌-◌, ◌*◌, ◌/◌, ◌%◌, ◌^◌, ◌<◌, ◌≤◌, Bool, true, cond, not, ◌⊎◌, List, length, drop, ◌==◌, nat_lt, slice_index}
use Rattle.number.specs.Number.{number}
use Rattle.columnar.specs.Types.{Number, limit}
use Rattle.schema.specs.formats.Code.{width_of}
use Rattle.schema.specs.formats.Types.{number_of, number_or}
use Rattle.array_data.specs.Tables.{Tables, place}
use Rattle.aggregates.specs.patterns.Parts.{Sized}
use Rattle.aggregates.specs.declared.tally.Cell.{Cell}
use Rattle.aggregates.specs.tally.Cells.{cell}
use Rattle.aggregates.specs.declared.cells.Cells.{Cells}

-- the largest number of w bytes, without a sign or with one
abbrev pub Topped : ℕ → ℕ → Type 0
Topped w top = (top ≡ 256 ^ w - 1) ⊎ (top ≡ 256 ^ w / 2 - 1)

-- the number of a format's code
abbrev pub number_at : ℕ → Number
number_at code = number_or (number_of code)

-- where node i's rows stand: the first of its buffers, and its validity
abbrev pub cells_of : Tables → ℕ → ℕ → Cells
cells_of x i code =
    record { width = width_of code; top = limit (number_at code) - 1; masked = not (place x i 0 == 0); mask = place x i 1; start = place x i 3 }

-- bit `slot`, where there is a map
unfoldable pub valid_at : List ℕ → Cells → ℕ → Bool
valid_at body c slot = cond c.masked (slice_index body (c.mask + slot / 8) / 2 ^ (slot % 8) % 2 == 1) true

abbrev pub below_at : ℕ → ℕ → ℕ
below_at top p = cond (nat_lt top p) 1 0

-- what a pattern adds
abbrev pub pattern_cell : ℕ → ℕ → Cell
pattern_cell top p = cell 1 p (below_at top p)

abbrev pub pattern_at : List ℕ → Cells → ℕ → ℕ
pattern_at body c slot = number c.width (drop (c.start + slot * c.width) body)

unfoldable pub cell_at : List ℕ → Cells → ℕ → Cell
cell_at body c slot = cond (valid_at body c slot) (pattern_cell c.top (pattern_at body c slot)) (cell 0 0 0)

-- the body holds the slot
pub record Held (body : List ℕ) (c : Cells) (slot : ℕ) : Type 0 where
  pub sized : Sized c.width
  pub topped : Topped c.width c.top
  pub holds : c.start + slot * c.width + c.width ≤ length body
  pub holds_bit : c.masked ≡ true → c.mask + slot / 8 < length body
