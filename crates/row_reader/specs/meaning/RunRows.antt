-- "how many rows of the column, counting that one, still fall in the run; at the column's end it stops at the column's length and not at the
-- run's end". Assumes nothing.
use Rattle.std.specs.Prelude.{◌≡◌, ℕ, ◌+◌, ◌≤◌, ◌<◌}
use Rattle.columnar.specs.RunEnd.{first_above}

-- the `left` rows from row r on of a column of `rows` rows at `offset`, with n runs whose ends are e: at least r itself, none past the column,
-- all in run k by the Columnar Format, and the next row in the next run
pub record FallIn (e : ℕ → ℕ) (n offset rows r k left : ℕ) : Type 0 where
  pub some : 1 ≤ left
  pub within : r + left ≤ rows
  pub inside : (i : ℕ) → i < left → first_above e (offset + r + i) 0 n ≡ k
  pub next : r + left < rows → first_above e (offset + r + left) 0 n ≡ k + 1
