-- Counters of other nodes than the first n. Assumes nothing.
use Rattle.std.specs.Prelude.{◌≡◌, List, ℕ, ◌*◌, ◌≤◌, get_or}

-- the same counters behind those of the first n nodes
abbrev pub Beyond : ℕ → List ℕ → List ℕ → Type 0
Beyond n c d = (j : ℕ) → 3 * n ≤ j → get_or c j 0 ≡ get_or d j 0
