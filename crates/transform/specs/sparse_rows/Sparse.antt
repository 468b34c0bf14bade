-- Sparse unions of numbers, and what a copy of one asks of its fields before it writes. Assumes nothing.
use Rattle.std.specs.Prelude.{◌≡◌, Bool, true, cond, ◌&&◌, List, ℕ, zero, suc, ◌≤◌, ◌<◌, ltb}
use Rattle.walk.specs.State.{Join, code_of, dictionary_of, end_of, rows, grown, place, far, slot_of, rows_in}
use Rattle.plan.specs.parts.Parts.{nodes_of, entry_size}
use Rattle.transform.specs.leaf_rows.Leaf.{bits_in}
use Rattle.transform.specs.numbers.Plan.{numbers_at}

-- the type is a sparse union, and all its other nodes are fields of numbers
pub record Sparse (plan : List ℕ) : Type 0 where
  pub code : code_of plan 0 ≡ 21
  pub plain : dictionary_of plan 0 ≡ 0
  pub some : 1 ≤ nodes_of plan
  pub end : end_of plan 0 ≡ nodes_of plan
  pub fields : (k : ℕ) → 1 ≤ k → k < nodes_of plan → numbers_at plan k ≡ true

-- the rows row .. row + n - 1 of field k, its own offset added, stand in the body with their validity
abbrev pub field_in : Join → ℕ → ℕ → ℕ → Bool
field_in x k row n =
    ltb (slot_of x k row n) far && bits_in x k (slot_of x k row n) n && rows_in x (place x k 3) (entry_size (code_of x.plan k)) (slot_of x k row n) n

-- .. those of every field from node k on, up to the node `end`
unfoldable pub fields_in : Join → ℕ → ℕ → ℕ → ℕ → ℕ → Bool
fields_in x row n end zero k = true
fields_in x row n end (suc m) k = cond (ltb k end) (field_in x k row n && fields_in x row n end m (suc k)) true

-- t has n rows more than c at each node below `end`
abbrev pub Raised : List ℕ → ℕ → ℕ → List ℕ → Type 0
Raised c n end t = (j : ℕ) → j < end → rows t j ≡ grown (rows c j) n
