-- What the null count of a finished node depends on, and what the tests of finishing give. Assumes nothing.
use Rattle.std.specs.Prelude.{◌≡◌, Bool, true, List, [], ℕ, ◌+◌, ◌*◌, ◌≤◌, ◌<◌, length}
use Rattle.columnar.specs.Test.{every}
use Rattle.walk.specs.State.{rows}
use Rattle.walk.specs.Log.{start_of}
use Rattle.plan.specs.parts.Parts.{nodes_of, has_part}
use Rattle.refinement.specs.finishing.Finish.{zeros_at, kept_in}
use Rattle.into_builder.specs.buffers.Names.{lent}

abbrev pub kept_of : List ℕ → List ℕ → List ℕ → List ℕ → List ℕ → ℕ → Bool
kept_of plan sources lengths places body i = kept_in (lent plan [] sources lengths places body) [] [] [] 0 i

-- .. of every node
abbrev pub all_kept : List ℕ → List ℕ → List ℕ → List ℕ → List ℕ → Bool
all_kept plan sources lengths places body = every (kept_of plan sources lengths places body) (nodes_of plan)

abbrev pub zeros_of : List ℕ → List ℕ → List ℕ → List ℕ → ℕ → ℕ
zeros_of plan parts counters room i = zeros_at (lent plan parts [] [] [] []) [] counters room 0 i

-- the validity of node i lies in a room of m bytes
abbrev pub BitsIn : List ℕ → List ℕ → List ℕ → ℕ → ℕ → Type 0
BitsIn plan parts counters m i = has_part plan i 0 ≡ true → 8 * start_of plan parts i 0 + rows counters i ≤ 8 * m

-- .. and that of every node in the room
abbrev pub AllBitsIn : List ℕ → List ℕ → List ℕ → List ℕ → Type 0
AllBitsIn plan parts counters room = (i : ℕ) → i < nodes_of plan → BitsIn plan parts counters (length room) i
