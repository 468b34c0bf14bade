-- Rows as what they add to a tally: numbers below zero are stored as two's complement, a modulus m more. Assumes nothing.
use Rattle.std.specs.Prelude.{◌≡◌, ℕ, zero, suc, ◌+◌, ◌-◌, ◌*◌, ◌/◌, ◌%◌, ◌≤◌, List, [], ◌∷◌, ℤ, pos, negsuc, ◌-ℤ◌}
use Rattle.columnar.specs.Row.{Row, null, whole, single, double, bytes, list, union}
use Rattle.aggregates.specs.declared.tally.Cell.{Cell}
use Rattle.aggregates.specs.declared.tally.Tally.{Tally}

abbrev pub cell : ℕ → ℕ → ℕ → Cell
cell count bits below = record { count = count; bits = bits; below = below }

-- how often m is added to reach a number from 0 on, and that number
abbrev pub whole_cell : ℕ → ℤ → Cell
whole_cell m (pos n) = cell 1 n 0
whole_cell m (negsuc n) = cell 1 (m - suc (n % m)) (suc (n / m))

unfoldable pub cell_of : ℕ → Row → Cell
cell_of m null = cell 0 0 0
cell_of m (whole z) = whole_cell m z
cell_of m (single b) = cell 1 0 0
cell_of m (double b) = cell 1 0 0
cell_of m (bytes s) = cell 1 0 0
cell_of m (list rs) = cell 1 0 0
cell_of m (union i r) = cell 1 0 0

-- the sums of what rows add
abbrev pub bits_of : ℕ → List Row → ℕ
bits_of m [] = 0
bits_of m (r ∷ rs) = (cell_of m r).bits + bits_of m rs

abbrev pub below_of : ℕ → List Row → ℕ
below_of m [] = 0
below_of m (r ∷ rs) = (cell_of m r).below + below_of m rs

-- ---- tallies

abbrev pub value_of : Tally → ℕ
value_of t = t.hi * 18446744073709551616 + t.lo

-- the sum that a tally stands for, over the integers
abbrev pub tallied_by : ℕ → Tally → ℤ
tallied_by lift t = pos (value_of t) -ℤ pos (t.below * (18446744073709551616 - lift))

-- what the cells a .. a + n - 1 add
abbrev pub sum_by : (Cell → ℕ) → (ℕ → Cell) → ℕ → ℕ → ℕ
sum_by p g a zero = 0
sum_by p g a (suc n) = p (g a) + sum_by p g (suc a) n

-- A TALLY OF THE CELLS a .. a + n - 1
pub record Tallied (g : ℕ → Cell) (a n : ℕ) (t : Tally) : Type 0 where
  pub count : t.count ≡ sum_by (λ c. c.count) g a n
  pub below : t.below ≡ sum_by (λ c. c.below) g a n
  pub value : value_of t ≡ sum_by (λ c. c.bits) g a n
  pub few : t.count ≤ n
  pub few_below : t.below ≤ n
  pub low : value_of t ≤ n * 18446744073709551615
