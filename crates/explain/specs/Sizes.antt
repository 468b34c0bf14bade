-- Parts whose sizes are below the largest number, as they are in any room: a number that is cut to the largest is above them. Assumes nothing.
use Rattle.std.specs.Prelude.{◌≡◌, true, List, ℕ, ◌<◌}
use Rattle.walk.specs.State.{top}
use Rattle.plan.specs.parts.Parts.{nodes_of, has_part, size_of}

module _ (plan parts : List ℕ) where
  abbrev pub SmallPart : ℕ → ℕ → Type 0
  SmallPart i b = has_part plan i b ≡ true → size_of plan parts i b < top

  abbrev pub SmallParts : Type 0
  SmallParts = (i b : ℕ) → i < nodes_of plan → b < 3 → SmallPart i b
