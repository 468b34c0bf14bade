-- Fractions in lowest terms: W8, "a fraction in lowest terms with a positive denominator, given as a sign and two magnitudes of 64 bits, zero
-- as plus 0 over 1". Assumes nothing.
use Rattle.std.specs.Prelude.{◌≡◌, ℕ, zero, suc, ◌*◌, ◌/◌, ◌%◌, ◌<◌, ◌≤◌, Bool, true, false, cond, not, ℤ, pos, negsuc, ◌==◌, unsigned_abs}
use Rattle.std.specs.Int.{◌∣◌}
use Rattle.aggregates.specs.declared.fractions.Fraction.{Fraction}

-- Euclid's algorithm, in at most f steps; any f above y gives the same
unfoldable pub euclid : ℕ → ℕ → ℕ → ℕ
euclid zero x y = x
euclid (suc f) x y = cond (y == 0) x (euclid f y (x % y))

abbrev pub gcd_of : ℕ → ℕ → ℕ
gcd_of x y = euclid (suc y) x y

abbrev pub is_minus : ℤ → Bool
is_minus (pos n) = false
is_minus (negsuc n) = true

abbrev pub differ : Bool → Bool → Bool
differ true b = not b
differ false b = b

-- two magnitudes over their greatest common divisor; zero has no sign
unfoldable pub lowest_of : Bool → ℕ → ℕ → Fraction
lowest_of minus n d = record { minus = cond (n == 0) false minus; over = n / gcd_of n d; under = d / gcd_of n d }

-- THE FRACTION n over d: minus where just one of them is below zero
abbrev pub fraction_of : ℤ → ℤ → Fraction
fraction_of n d = lowest_of (differ (is_minus n) (is_minus d)) (unsigned_abs n) (unsigned_abs d)

-- ---- what it is to be in lowest terms

-- the numbers that divide a and b are those that divide g
pub record IsGcd (a b g : ℕ) : Type 0 where
  pub left : g ∣ a
  pub right : g ∣ b
  pub most : (d : ℕ) → d ∣ a → d ∣ b → d ∣ g

-- f is n over d in lowest terms
pub record Lowest (n d : ℤ) (f : Fraction) : Type 0 where
  pub value : f.over * unsigned_abs d ≡ unsigned_abs n * f.under
  pub sign : f.minus ≡ cond (unsigned_abs n == 0) false (differ (is_minus n) (is_minus d))
  pub coprime : (k : ℕ) → k ∣ f.over → k ∣ f.under → k ≡ 1
  pub positive : 0 < f.under
  pub small_over : f.over ≤ unsigned_abs n
  pub small_under : f.under ≤ unsigned_abs d
