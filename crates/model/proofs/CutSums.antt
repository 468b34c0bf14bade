-- Sums of the rows of a copy cut in two. Assumes nothing.
use mathlib.Core.Path.{◌≡◌}
use mathlib.Core.Bool.{true}
use Prim.Native.Nat.{ℕ, suc, ◌+◌, ◌-◌, ◌≤◌, ◌<◌}
use native.Mathlib.Omega.{arith}
use lib.Dec.{ltb}
use borrow.Author.Tests.{lt-ltb}

pub some_less : (f l : ℕ) → f ≤ l → 0 < suc l - f
some_less f l h = omega arith

pub some_sum : (o n m s : ℕ) → s + o ≡ n + m → o ≤ m → 0 < n → 0 < s
some_sum o n m s e h k = omega arith

pub sum_less : (r r₁ o n m s : ℕ) → r₁ ≡ r + n → s + o ≡ n + m → r + s ≤ r₁ + m
sum_less r r₁ o n m s e f = omega arith

pub sum_fits : (r r₁ o n m s l : ℕ) → r₁ ≡ r + n → s + o ≡ n + m → r₁ + m < l → r + s < l
sum_fits r r₁ o n m s l e f h = omega arith

pub le_same : (n : ℕ) → n ≤ n
le_same n = omega arith

pub le_lt : (a b l : ℕ) → a ≤ b → b < l → ltb a l ≡ true
le_lt a b l h k = lt-ltb a l (omega arith)

pub in_reach : (o a n k m s len : ℕ) → k + o ≡ a + n → s + o ≡ n + m → o ≤ m → a + s ≤ len → k + o ≤ len
in_reach o a n k m s len e f h q = omega arith

-- the ranges of rows as ranges of slots
pub spread : (off len top o a n k m s : ℕ) → k + o ≡ a + n → s + o ≡ n + m → a + s ≤ len → off + len ≤ top → (off + k + o ≡ off + a + n) × (off + k + m ≡ off + a + s) × (off + a + s ≤ top)
spread off len top o a n k m s e f h t = (omega arith, omega arith, omega arith)
