-- What the tests of finishing give of the parts of a node. Assumes nothing.
use Rattle.std.specs.Prelude.{◌≡◌, true, List, ℕ, zero, suc, ◌+◌, ◌/◌, ◌≤◌, ◌<◌}
use Rattle.walk.specs.State.{rows, top}
use Rattle.walk.specs.Log.{start_of}
use Rattle.plan.specs.parts.Parts.{has_part, needed}

-- the parts of node i start at positions of 64 bits in the body, and the numbers of their bytes are such too
pub record Placed (plan parts counters : List ℕ) (base i : ℕ) : Type 0 where
  pub start : (b : ℕ) → b < 3 → has_part plan i b ≡ true → base + start_of plan parts i b ≤ top
  pub size : (b : ℕ) → b < 3 → has_part plan i b ≡ true → needed plan counters i b ≤ top

-- number j of the three of the validity of node i, where it has a zero bit
abbrev pub valid_place : List ℕ → List ℕ → List ℕ → ℕ → ℕ → ℕ → ℕ
valid_place plan parts counters base i zero = 1
valid_place plan parts counters base i (suc zero) = base + start_of plan parts i 0
valid_place plan parts counters base i (suc (suc j)) = (rows counters i + 7) / 8
