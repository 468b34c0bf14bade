-- Rows of w bytes as they stand in a body, and which of them are the last of a run (02, W1). Assumes nothing.
use Rattle.std.specs.Prelude.{◌≡◌, Bool, true, not, cond, ◌||◌, List, ℕ, suc, ◌+◌, ◌*◌, ◌/◌, ◌%◌, ◌^◌, ◌≤◌, ◌<◌, length, drop, get_or, eqb}
use Rattle.number.specs.Number.{number}
use Rattle.aggregates.specs.patterns.Parts.{Sized}
use Rattle.anew.specs.runs.Runs.{alike, those}

abbrev pub as_bit : Bool → ℕ
as_bit v = cond v 1 0

-- "null slots as zeros"
abbrev pub cell_of : Bool → ℕ → ℕ
cell_of valid x = cond valid x 0

-- the number of row r
abbrev pub number_in : List ℕ → ℕ → ℕ → ℕ → ℕ
number_in body w start r = number w (drop (start + r * w) body)

-- whether row r is valid: by its bit, where the rows are masked
unfoldable pub valid_in : List ℕ → Bool → ℕ → ℕ → ℕ → Bool
valid_in body masked mask bit r = cond masked (eqb (get_or body (mask + (bit + r) / 8) 0 / 2 ^ ((bit + r) % 8) % 2) 1) true

module _ (body : List ℕ) (w : ℕ) (masked : Bool) (start mask bit : ℕ) where
  -- the body holds m rows
  pub record Held (m : ℕ) : Type 0 where
    pub sized : Sized w
    pub holds : start + m * w ≤ length body
    pub holds_bits : masked ≡ true → 8 * mask + bit + m ≤ 8 * length body
    pub low : masked ≡ true → bit + m < 2 ^ 64

  -- row r and the next read differently
  unfoldable pub change_in : ℕ → Bool
  change_in r = not (alike (valid_in body masked mask bit r) (valid_in body masked mask bit (suc r)) (eqb (number_in body w start r) (number_in body w start (suc r))))

  -- row r is the last of its run among m rows
  abbrev pub last_in : ℕ → ℕ → Bool
  last_in m r = eqb (suc r) m || change_in r

  -- THE LAST ROWS OF THE RUNS of m rows
  abbrev pub last_rows : ℕ → List ℕ
  last_rows m = those (last_in m) 0 m
