-- Keys of w bytes that are rebased. 01: a key is rebased by adding modulo 2 to the power of its width. Assumes nothing.
use Rattle.std.specs.Prelude.{ℕ, ◌+◌, ◌%◌, ◌^◌, List, ℤ}
use Rattle.number.specs.Number.{entry, signed, pattern}
use Rattle.utils.specs.Pieces.{numbers}

-- the first n keys of w bytes that stand in s from `from` on, each plus base, modulo 256 ^ w
unfoldable pub rebased : ℕ → List ℕ → ℕ → ℕ → ℕ → List ℕ
rebased w s from base n = numbers w (λ k. (entry w s from k + base) % 256 ^ w) n

-- the sum of two signed numbers of w bytes, modulo 256 ^ w: that of their patterns
abbrev pub wrapping_add : ℕ → ℤ → ℤ → ℤ
wrapping_add w x y = signed w ((pattern w x + pattern w y) % 256 ^ w)
