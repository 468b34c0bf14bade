-- Stretches of rows. Assumes nothing.
use mathlib.Core.Path.{◌≡◌, refl, sym, ap, ap₂, ◌∙◌}
use mathlib.Core.List.{List, [], ◌∷◌, ◌++◌}
use Prim.Native.Nat.{ℕ, zero, suc, ◌+◌, ◌≤◌, ◌<◌}
use native.Mathlib.Nat.{add-zero, zero-add}
use native.Mathlib.Omega.{arith}
use lib.ListN.{replicate}
use Rattle.columnar.specs.Row.{seg}
use Rattle.model.proofs.Bits.{shift}

module _ {A : Type 0} where
  pub seg_cong : (f g : ℕ → A) (a b n : ℕ) → ((i : ℕ) → i < n → f (a + i) ≡ g (b + i)) → seg f a n ≡ seg g b n
  seg_cong f g a b zero h = refl
  seg_cong f g a b (suc n) h =
      ap₂ ◌∷◌ (rw (add-zero, add-zero) at (h 0 (omega arith)))
      (seg_cong f g (suc a) (suc b) n (λ i k. rw (shift a i, shift b i) (h (suc i) (omega arith))))

  pub seg_append : (f : ℕ → A) (a m n : ℕ) → seg f a (m + n) ≡ seg f a m ++ seg f (a + m) n
  seg_append f a zero n = rw (zero-add, add-zero)
  seg_append f a (suc m) n =
      let e : suc m + n ≡ suc (m + n) = omega arith in
      rw (e, ← shift a m) (ap (f a ∷◌) (seg_append f (suc a) m n))

  pub seg_same : (x : A) (a n : ℕ) → seg (λ i. x) a n ≡ replicate n x
  seg_same x a zero = refl
  seg_same x a (suc n) = ap (x ∷◌) (seg_same x (suc a) n)
