-- Entries of w bytes that stand in s from the byte `from` on, written again with w' bytes each: their w' lowest bytes. Assumes nothing.
use Rattle.std.specs.Prelude.{ℕ, zero, suc, ◌+◌, ◌-◌, ◌*◌, ◌%◌, ◌^◌, Bool, true, ◌&&◌, List, nat_lt, slice_index}
use Rattle.number.specs.Number.{entry}
use Rattle.bits.specs.Bits.{bits}
use Rattle.utils.specs.Pieces.{numbers}

-- n of them
unfoldable pub recoded : ℕ → ℕ → List ℕ → ℕ → ℕ → List ℕ
recoded w w' s from n = numbers w' (entry w s from) n

-- n of them, each less base, as the machine subtracts: modulo 2 ^ 64
unfoldable pub lessened : ℕ → ℕ → List ℕ → ℕ → ℕ → ℕ → List ℕ
lessened w w' s from base n = numbers w' (λ k. (entry w s from k + 256 ^ 8 - base) % 256 ^ 8) n

-- n entries of w bytes that stand at `at`, entry k times f k, which is 0 or 1
unfoldable pub masked : ℕ → List ℕ → ℕ → (ℕ → ℕ) → ℕ → List ℕ
masked w room at f n = numbers w (λ k. entry w room at k * f k) n

-- n of them, 0 where the bit is 0, of those of s from bit p on: a key under a null is 0
unfoldable pub valid_only : ℕ → ℕ → List ℕ → ℕ → ℕ → ℕ → List ℕ
valid_only w w' s from p n = numbers w' (λ k. entry w s from k * slice_index (bits s) (p + k)) n

-- n of them are below a limit
unfoldable pub all_below : ℕ → List ℕ → ℕ → ℕ → ℕ → Bool
all_below w s from limit zero = true
all_below w s from limit (suc n) = all_below w s from limit n && nat_lt (entry w s from n) limit
