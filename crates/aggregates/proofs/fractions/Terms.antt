-- THE FRACTION IS IN LOWEST TERMS: its value, its sign, coprime magnitudes, a denominator above zero; zero is plus 0 over 1. Assumes nothing.
use Rattle.std.proofs.Common.{◌≡◌, ℕ, zero, suc, ◌*◌, ◌/◌, ◌<◌, false, ℤ, pos, negsuc, nat_abs, sym, refl, ap, ◌∙◌, subst, mul_assoc, mul_comm, one-mul, div-le_self, arith}
use Prim.Native.Nat.{◌∣◌}
use native.Mathlib.Nat.{div-mul_cancel, pos_of_dvd_of_pos, mul-dvd-mul_right, dvd_of_mul-dvd-mul_right, eq-one_of_dvd-one, dvd_antisymm, div_self, zero-div, dvd_refl, dvd-zero}
use Rattle.aggregates.specs.fractions.Lowest.{gcd_of, lowest_of, fraction_of, IsGcd, Lowest}
use Rattle.aggregates.proofs.fractions.Euclid.{greatest}

module _ (n d g : ℕ) (h : 0 < d) (is : IsGcd n d g) where
  pub divisor : 0 < g
  divisor = pos_of_dvd_of_pos is.right h

  n_is : n / g * g ≡ n
  n_is = div-mul_cancel g is.left

  d_is : d / g * g ≡ d
  d_is = div-mul_cancel g is.right

  same_value : n / g * d ≡ n * (d / g)
  same_value = ap (λ k. n / g * k) (sym d_is ∙ mul_comm (d / g) g) ∙ (sym (mul_assoc (n / g) g (d / g)) ∙ ap (λ k. k * (d / g)) n_is)

  no_common : (k : ℕ) → k ∣ n / g → k ∣ d / g → k ≡ 1
  no_common k a b =
      eq-one_of_dvd-one (dvd_of_mul-dvd-mul_right k {n = 1} divisor
      (subst (λ m. k * g ∣ m) (sym (one-mul g))
      (is.most (k * g) (subst (λ m. k * g ∣ m) n_is (mul-dvd-mul_right k a g)) (subst (λ m. k * g ∣ m) d_is (mul-dvd-mul_right k b g)))))

  above : 0 < d / g
  above = go (d / g) d_is
    where
      go : (q : ℕ) → q * g ≡ d → 0 < q
      go zero e = absurd (omega (arith, h))
      go (suc q) e = omega arith

pub magnitude_above : (d : ℤ) → (d ≡ pos 0 → ⊥) → 0 < nat_abs d
magnitude_above (pos zero) h = absurd (h refl)
magnitude_above (pos (suc n)) h = omega arith
magnitude_above (negsuc n) h = omega arith

-- IN LOWEST TERMS
pub lowest : (n d : ℤ) → (d ≡ pos 0 → ⊥) → Lowest n d (fraction_of n d)
unfolding lowest_of
lowest n d h =
    let p = magnitude_above d h in
    let is = greatest (nat_abs n) (nat_abs d) in
    record {
      value = same_value (nat_abs n) (nat_abs d) (gcd_of (nat_abs n) (nat_abs d)) p is;
      sign = refl;
      coprime = no_common (nat_abs n) (nat_abs d) (gcd_of (nat_abs n) (nat_abs d)) p is;
      positive = above (nat_abs n) (nat_abs d) (gcd_of (nat_abs n) (nat_abs d)) p is;
      small_over = div-le_self (nat_abs n) (gcd_of (nat_abs n) (nat_abs d));
      small_under = div-le_self (nat_abs d) (gcd_of (nat_abs n) (nat_abs d));
    }

-- ZERO is plus 0 over 1
pub zero_is : (d : ℤ) → (d ≡ pos 0 → ⊥) → fraction_of (pos 0) d ≡ record { minus = false; over = 0; under = 1 }
unfolding lowest_of
zero_is d h =
    let p = magnitude_above d h in
    let is = greatest 0 (nat_abs d) in
    let g : gcd_of 0 (nat_abs d) ≡ nat_abs d = dvd_antisymm is.right (is.most (nat_abs d) (dvd-zero (nat_abs d)) (dvd_refl (nat_abs d))) in
    rw (g, zero-div (nat_abs d), div_self p)
