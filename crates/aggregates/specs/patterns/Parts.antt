-- Sums of numbers that stand one behind the other in the body. Assumes nothing.
use Rattle.std.specs.Prelude.{◌≡◌, ℕ, zero, suc, ◌+◌, ◌-◌, ◌*◌, ◌/◌, ◌%◌, ◌^◌, List, drop, ◌≢◌}
use Rattle.number.specs.Number.{number}
use Rattle.aggregates.specs.declared.patterns.Part.{Part}

-- so few numbers that 64 bits hold the sum of their halves of 32
abbrev pub block_rows : ℕ
block_rows = 1048576

-- 1, 2, 4 or 8 bytes
abbrev pub Sized : ℕ → Type 0
Sized w = (w ≢ 1) → (w ≢ 2) → (w ≢ 4) → w ≡ 8

-- the top bit of w bytes
abbrev pub top_bit : ℕ → ℕ
top_bit w = 8 * w - 1

-- the number i of those of w bytes from a position on
abbrev pub pattern_in : List ℕ → ℕ → ℕ → ℕ → ℕ
pattern_in body at w i = number w (drop (at + i * w) body)

-- bit i of a number
abbrev pub bit_of : ℕ → ℕ → ℕ
bit_of m i = m / 2 ^ i % 2

-- .. where the bit i of m is 1, and else 0
abbrev pub kept_in : List ℕ → ℕ → ℕ → ℕ → ℕ → ℕ
kept_in body at w m i = pattern_in body at w i * bit_of m i

-- f 0 + .. + f (n - 1)
unfoldable pub up_to : (ℕ → ℕ) → ℕ → ℕ
up_to f zero = 0
up_to f (suc n) = up_to f n + f n

-- THE PARTS of n numbers f, counted by b: the sums of their halves of 32 bits and of their top bits of w bytes
pub record Added (f b : ℕ → ℕ) (w n : ℕ) (r : Part) : Type 0 where
  pub count : r.count ≡ up_to b n
  pub low : r.low ≡ up_to (λ i. f i % 4294967296) n
  pub high : r.high ≡ up_to (λ i. f i / 4294967296) n
  pub below : r.below ≡ up_to (λ i. f i / 2 ^ top_bit w) n
