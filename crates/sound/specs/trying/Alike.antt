-- Counters that a walk answers alike, whatever nulls they count. Assumes nothing.
use Rattle.std.specs.Prelude.{◌≡◌, List, ℕ, ◌<◌, length}
use Rattle.walk.specs.State.{rows, nulls, bytes, top}

-- the same rows and bytes at every node
pub record Alike (c d : List ℕ) : Type 0 where
  pub size : length c ≡ length d
  pub rows_same : (j : ℕ) → rows c j ≡ rows d j
  pub bytes_same : (j : ℕ) → bytes c j ≡ bytes d j

-- the null counters of the first n nodes are full: they stay at the largest number, so that no zero bit needs to be counted
abbrev pub Full : ℕ → List ℕ → Type 0
Full n c = (j : ℕ) → j < n → nulls c j ≡ top
