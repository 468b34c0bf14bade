-- Signed numbers by their patterns, at every width. Assumes nothing.
use mathlib.Core.Path.{◌≡◌, refl, ap, ◌∙◌}
use mathlib.Core.Bool.{true, false}
use Prim.Native.Nat.{ℕ, suc, ◌-◌, ◌^◌, ◌<◌}
use native.Mathlib.Omega.{arith}
use lib.IntN.{ℤ, pos, negsuc, ◌-ℤ◌}
use lib.Signed.{lt_z}
use borrow.Author.Tests.{le-ltb, ltb-true}
use mir.Syntax.{Width}
use mir.Val.{Fits, SFits, hbits, to_z, of_z}
use mir.ValLaws.{to_z-of_z, to_z_pos, to_z-Fits}

-- a number below 0, by its pattern
pub record Below (w : Width) (x : ℤ) : Type 0 where
  pub k : ℕ
  pub is : x ≡ negsuc k
  pub fits : k < 2 ^ hbits w

pub record From (w : Width) (x : ℤ) : Type 0 where
  pub k : ℕ
  pub is : x ≡ pos k
  pub fits : k < 2 ^ hbits w

pub below : (w : Width) (x : ℤ) → SFits w x → lt_z (to_z w (of_z w x)) (pos 0) ≡ true → Below w x
below w x f t = go x f (rw (to_z-of_z w x f) at t)
  where
    go : (x : ℤ) → SFits w x → lt_z x (pos 0) ≡ true → Below w x
    go (pos n) f t = absurd (omega (arith, ltb-true n 0 t))
    go (negsuc k) f t = record { k = k; is = refl; fits = f.sfits }

pub from : (w : Width) (x : ℤ) → SFits w x → lt_z (to_z w (of_z w x)) (pos 0) ≡ false → From w x
from w x f t = go x f (rw (to_z-of_z w x f) at t)
  where
    go : (x : ℤ) → SFits w x → lt_z x (pos 0) ≡ false → From w x
    go (pos n) f t = record { k = n; is = refl; fits = f.sfits }
    go (negsuc k) f t = absurd (let z : true ≡ false = t in let y : ◌≡◌ {A = ℕ} 0 1 = cc in omega arith)

-- -1 - x
flip_neg : (k : ℕ) → negsuc 0 -ℤ negsuc k ≡ pos k
flip_neg k = let e : suc k - 1 ≡ k = omega arith in rw (le-ltb (suc k) 1 (omega arith)) (ap pos e)

module _ {w : Width} {x : ℤ} (f : SFits w x) (b : Below w x) where
  pub flipped : negsuc 0 -ℤ to_z w (of_z w x) ≡ pos b.k
  flipped = rw (to_z-of_z w x f, b.is) (flip_neg b.k)

  -- as the machine has it, through the pattern
  pub flipped_read : to_z w (of_z w (negsuc 0 -ℤ to_z w (of_z w x))) ≡ pos b.k
  flipped_read = rw flipped (to_z_pos w b.k b.fits)

pub from_read : {w : Width} {x : ℤ} (f : SFits w x) (b : From w x) → to_z w (of_z w x) ≡ pos b.k
from_read {w} {x} f b = to_z-of_z w x f ∙ b.is

-- a number read from the pattern p, which is q, and handed on
pub read_value : (w : Width) (z : ℤ) (p q : ℕ) → Fits w p → z ≡ to_z w p → p ≡ q → to_z w (of_z w z) ≡ to_z w q
read_value w z p q f e h = to_z-of_z w z (rw e (to_z-Fits w p f)) ∙ e ∙ ap (to_z w) h
