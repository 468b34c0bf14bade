-- Entries of w bytes that stand in a body from the byte `from` on: those that are chosen, one behind the other (W9). Assumes nothing.
use Rattle.std.specs.Prelude.{Bool, cond, List, [], ◌++◌, ℕ, zero, suc, ◌+◌, ◌*◌, get_or, take, drop, ltb}

module _ (body : List ℕ) (from w : ℕ) (u : ℕ → Bool) where
  -- those of the first n entries for which the test holds
  unfoldable pub chosen : ℕ → List ℕ
  chosen zero = []
  chosen (suc n) = chosen n ++ cond (u n) (take w (drop (from + w * n) body)) []

-- the rank of entry j is below that of the next one
abbrev pub risen : List ℕ → ℕ → Bool
risen ranks j = ltb (get_or ranks j 0) (get_or ranks (j + 1) 0)
