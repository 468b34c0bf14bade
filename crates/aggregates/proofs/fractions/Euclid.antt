-- Euclid's algorithm gives the greatest common divisor. Assumes nothing.
use Rattle.std.proofs.Common.{◌≡◌, ℕ, zero, suc, ◌%◌, ◌<◌, Bool, true, false, cond, eqb, sym, refl, ◌∙◌, subst, mod-lt, pos_of_ne-zero, arith, eq-eqb, ne_eqb, eqb-true}
use Prim.Native.Nat.{◌∣◌}
use native.Mathlib.Nat.{dvd_refl, dvd-zero, dvd-mod_iff}
use borrow.Author.Tests.{eqb-false}
use Rattle.aggregates.specs.fractions.Lowest.{euclid, gcd_of, IsGcd}

falls : (x y : ℕ) → (y ≡ 0 → ⊥) → x % y < y
falls x y h = mod-lt x (pos_of_ne-zero h)

-- any number of steps above y is enough
enough : (f g x y : ℕ) → y < f → y < g → euclid f x y ≡ euclid g x y
unfolding euclid
enough zero g x y h k = absurd (omega arith)
enough (suc f) zero x y h k = absurd (omega arith)
enough (suc f) (suc g) x y h k = go (eqb y 0) refl (λ l. enough f g y (x % y) (omega arith) (omega arith))
  where
    go : (b : Bool) → eqb y 0 ≡ b → (x % y < y → euclid f y (x % y) ≡ euclid g y (x % y)) → cond b x (euclid f y (x % y)) ≡ cond b x (euclid g y (x % y))
    go true e ih = refl
    go false e ih = ih (falls x y (eqb-false y 0 e))

pub stop : (x y : ℕ) → y ≡ 0 → x ≡ gcd_of x y
unfolding euclid
stop x y e = rw (eq-eqb y 0 e)

one_step : (x y : ℕ) → (y ≡ 0 → ⊥) → gcd_of x y ≡ euclid y y (x % y)
unfolding euclid
one_step x y h = rw (ne_eqb y 0 h)

pub turn : (x y : ℕ) → (y ≡ 0 → ⊥) → gcd_of y (x % y) ≡ gcd_of x y
turn x y h = enough (suc (x % y)) y y (x % y) (omega arith) (falls x y h) ∙ sym (one_step x y h)

is_gcd : (f x y : ℕ) → y < f → IsGcd x y (euclid f x y)
unfolding euclid
is_gcd zero x y h = absurd (omega arith)
is_gcd (suc f) x y h = go (eqb y 0) refl (λ l. is_gcd f y (x % y) (omega arith))
  where
    go : (b : Bool) → eqb y 0 ≡ b → (x % y < y → IsGcd y (x % y) (euclid f y (x % y))) → IsGcd x y (cond b x (euclid f y (x % y)))
    go true e ih =
        record { left = dvd_refl x; right = subst (λ n. x ∣ n) (sym (eqb-true y 0 e)) (dvd-zero x); most = λ d p q. p }
    go false e ih =
        let g = ih (falls x y (eqb-false y 0 e)) in
        record {
          left = (dvd-mod_iff (euclid f y (x % y)) g.left).0 g.right;
          right = g.left;
          most = λ d p q. g.most d q ((dvd-mod_iff d q).1 p);
        }

pub greatest : (x y : ℕ) → IsGcd x y (gcd_of x y)
greatest x y = is_gcd (suc y) x y (omega arith)
