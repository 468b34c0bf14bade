-- Runs of entries that stand one after the other, as in every buffer of the Columnar Format. Assumes nothing.
use Rattle.std.specs.Prelude.{ℕ, zero, suc, List, [], ◌++◌}
use Rattle.number.specs.Number.{encode}

-- the entries f 0, f 1, .. f (n - 1), one after the other
unfoldable pub pieces : (ℕ → List ℕ) → ℕ → List ℕ
pieces f zero = []
pieces f (suc n) = pieces f n ++ f n

-- n numbers of w bytes, of which number k is f k
abbrev pub numbers : ℕ → (ℕ → ℕ) → ℕ → List ℕ
numbers w f n = pieces (λ k. encode w (f k)) n
