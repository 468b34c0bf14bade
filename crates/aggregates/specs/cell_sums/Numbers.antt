-- The rows of a whole-number column as cells. Assumes nothing.
use Rattle.std.specs.Prelude.{◌≡◌, ℕ, ◌+◌, ◌-◌, ◌^◌, ◌<◌, ◌≤◌, true, false, cond, List, length, ◌==◌, ◌≢◌, Result, Ok, Err}
use Rattle.array_data.specs.Tables.{part}
use Rattle.run_ends.specs.declared.PhysicalRun.{PhysicalRun}
use Rattle.run_ends.specs.declared.RunRow.{RunRow}
use Rattle.slot_reader.specs.run.Rows.{row_run}
use Rattle.aggregates.specs.declared.tally.Cell.{Cell}
use Rattle.aggregates.specs.tally.Cells.{cell}
use Rattle.aggregates.specs.cells.Cells.{Held, cell_at}
use Rattle.aggregates.specs.declared.cell_sums.Numbers.{Numbers}
use Rattle.aggregates.specs.declared.cell_sums.Stretch.{Stretch}

module _ (body : List ℕ) (n : Numbers) where
  -- the run of a row, as it is looked up
  abbrev pub asked : ℕ → Result RunRow ℕ
  asked row = row_run (part body n.ends.start (n.ends.stop - n.ends.start)) n.ends.offset n.ends.len n.ends.width row

  -- the value of a run
  abbrev pub value_at : Result RunRow ℕ → Cell
  value_at (Ok r) = cell_at body n.cells (n.skip + r.run.0)
  value_at (Err g) = cell 0 0 0

  -- the cell of a row
  unfoldable pub cell_in : ℕ → Cell
  cell_in row = cond n.runs (value_at (asked row)) (cell_at body n.cells (n.skip + row))

  -- a run that was found: its value is held, and the rows that are left of it have it
  pub record Found (row : ℕ) (k : PhysicalRun) (left : ℕ) : Type 0 where
    pub some_left : 0 < left
    pub low : (row + left < 2 ^ 63) × (n.skip + k.0 < 2 ^ 64)
    pub held : Held body n.cells (n.skip + k.0)
    pub same : (j : ℕ) → j < left → cell_in (row + j) ≡ cell_at body n.cells (n.skip + k.0)

  -- what reading a row needs
  pub record Ready (row : ℕ) : Type 0 where
    pub plain : n.runs ≡ false → (n.skip + row < 2 ^ 64) × Held body n.cells (n.skip + row)
    pub ends_held : n.runs ≡ true → (n.ends.start ≤ n.ends.stop) × (n.ends.stop ≤ length body)
    pub found : n.runs ≡ true → (k : PhysicalRun) (left : ℕ) → asked row ≡ Ok (record { run = k; left = left }) → Found row k left
    pub some_run : n.runs ≡ true → (g : ℕ) → asked row ≢ Err g

  abbrev pub AllReady : ℕ → ℕ → Type 0
  AllReady start end = (row : ℕ) → start ≤ row → row < end → Ready row

-- a cell as a row adds it
pub record Bounded (c : Cell) : Type 0 where
  pub count : c.count ≤ 1
  pub below : c.below ≤ 1
  pub bits : c.bits ≤ 18446744073709551615

-- the rows from `row` on have the stretch's cell, up to its end
pub record Flat (g : ℕ → Cell) (row : ℕ) (s : Stretch) : Type 0 where
  pub bounded : Bounded s.cell
  pub same : (k : ℕ) → row ≤ k → k < s.until → g k ≡ s.cell

-- ---- two columns

-- a cell where the other counts
unfoldable pub mask_cell : Cell → Cell → Cell
mask_cell c d = cond (d.count == 0) (cell 0 0 0) c

abbrev pub both_cells : (ℕ → Cell) → (ℕ → Cell) → ℕ → Cell
both_cells f g k = mask_cell (f k) (g k)
