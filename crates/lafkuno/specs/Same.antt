-- What the call over two rows answers. Assumes nothing.
use Rattle.std.specs.Prelude.{Bool, cond, List, [], ◌∷◌, ℕ, length, eqb, Result, Ok, Err}
use Rattle.lafkuno.specs.Sums.{flag_of}

-- 1 where both rows read the same
abbrev pub same_or : List ℕ → Result Bool ℕ → List ℕ
same_or answer (Ok b) = flag_of b ∷ []
same_or answer (Err g) = answer

-- the ground, and the answer after the call: 14, last, where it has not one number
unfoldable pub same_ground : Result Bool ℕ → List ℕ → ℕ
same_ground (Ok b) answer = cond (eqb (length answer) 1) 0 14
same_ground (Err g) answer = g

unfoldable pub same_numbers : Result Bool ℕ → List ℕ → List ℕ
same_numbers a answer = cond (eqb (length answer) 1) (same_or answer a) answer
