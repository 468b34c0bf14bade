-- How many numbers have a property. Assumes nothing.
use mathlib.Core.Bool.{Bool, cond}
use Prim.Native.Nat.{ℕ}
use Rattle.columnar.specs.Row.{sum}

-- how many i below n have p
abbrev pub count : (ℕ → Bool) → ℕ → ℕ
count p n = sum (λ j. cond (p j) 1 0) n
