-- The comparison of floats: it passes on, nothing is below itself, and what is a number stands on one side or the other. Assumes nothing.
use mathlib.Core.Path.{◌≡◌, refl, sym, ap, ap₂, ◌∙◌}
use Prim.Native.Nat.{ℕ, zero, suc, ◌+◌, ◌*◌, ◌≤◌, ◌<◌}
use mathlib.Core.Bool.{Bool, true, false, not, ◌&&◌, true≢false}
use native.Mathlib.Nat.{mul-lt-mul_of_pos_right, mul-le-mul_right, mul_right_comm, add-mul, zero-mul}
use native.Mathlib.Omega.{arith}
use lib.Dec.{ltb}
use lib.IntN.{ℤ}
use lib.Ieee.{Float, nan, inf, fin, up, down, below, lt, is_nan}
use lib.Ieee.Fits.{up_pos, down_pos}
use borrow.Author.Tests.{ltb-true, ltb-false, lt-ltb, le-ltb}

scaled : (a b k : ℕ) → 0 < k → ltb (a * k) (b * k) ≡ ltb a b
scaled a b k p = go (ltb a b) refl
  where
    go : (x : Bool) → ltb a b ≡ x → ltb (a * k) (b * k) ≡ x
    go true e = lt-ltb (a * k) (b * k) (mul-lt-mul_of_pos_right (ltb-true a b e) p)
    go false e = le-ltb (a * k) (b * k) (mul-le-mul_right k (ltb-false a b e))

below_scaled : (s t : Bool) (a b k : ℕ) → 0 < k → below s (a * k) t (b * k) ≡ below s a t b
below_scaled false false a b k p = scaled a b k p
below_scaled false true a b k p = refl
below_scaled true false a b k p = ap₂ ltb (sym (zero-mul k)) (sym (add-mul a b k)) ∙ scaled 0 (a + b) k p
below_scaled true true a b k p = scaled b a k p

below_trans : (s t u : Bool) (x y z : ℕ) → below s x t y ≡ true → below t y u z ≡ true → below s x u z ≡ true
below_trans false false false x y z p q = lt-ltb x z (omega (arith, ltb-true x y p, ltb-true y z q))
below_trans false false true x y z p q = absurd (true≢false (sym q))
below_trans false true u x y z p q = absurd (true≢false (sym p))
below_trans true false false x y z p q = lt-ltb 0 (x + z) (omega (arith, ltb-true 0 (x + y) p, ltb-true y z q))
below_trans true false true x y z p q = absurd (true≢false (sym q))
below_trans true true false x y z p q = lt-ltb 0 (x + z) (omega (arith, ltb-true y x p, ltb-true 0 (y + z) q))
below_trans true true true x y z p q = lt-ltb z x (omega (arith, ltb-true y x p, ltb-true z y q))

-- where x is below z, and y is not, x is below y
below_co : (s t u : Bool) (x y z : ℕ) → below s x u z ≡ true → below t y u z ≡ false → below s x t y ≡ true
below_co false false false x y z p q = lt-ltb x y (omega (arith, ltb-true x z p, ltb-false y z q))
below_co false true false x y z p q = absurd (omega (arith, ltb-true x z p, ltb-false 0 (y + z) q))
below_co false t true x y z p q = absurd (true≢false (sym p))
below_co true false false x y z p q = lt-ltb 0 (x + y) (omega (arith, ltb-true 0 (x + z) p, ltb-false y z q))
below_co true false true x y z p q = lt-ltb 0 (x + y) (omega (arith, ltb-true z x p))
below_co true true false x y z p q = lt-ltb y x (omega (arith, ltb-true 0 (x + z) p, ltb-false 0 (y + z) q))
below_co true true true x y z p q = lt-ltb y x (omega (arith, ltb-true z x p, ltb-false z y q))

-- three numbers in units of one denominator
xy : (s t : Bool) (m n : ℕ) (e d f : ℤ) → lt (fin s m e) (fin t n d) ≡ below s (m * up e * down d * down f) t (n * up d * down e * down f)
unfolding lt
xy s t m n e d f = sym (below_scaled s t (m * up e * down d) (n * up d * down e) (down f) (down_pos f))

yz : (t u : Bool) (n p : ℕ) (e d f : ℤ) → lt (fin t n d) (fin u p f) ≡ below t (n * up d * down e * down f) u (p * up f * down d * down e)
yz t u n p e d f = xy t u n p d f e ∙ ap (λ z. below t z u (p * up f * down d * down e)) (mul_right_comm (n * up d) (down f) (down e))

xz : (s u : Bool) (m p : ℕ) (e d f : ℤ) → lt (fin s m e) (fin u p f) ≡ below s (m * up e * down d * down f) u (p * up f * down d * down e)
xz s u m p e d f = xy s u m p e f d ∙ ap₂ (λ a b. below s a u b) (mul_right_comm (m * up e) (down f) (down d)) (mul_right_comm (p * up f) (down e) (down d))

no : {A : Type 0} → false ≡ true → A
no e = absurd (true≢false (sym e))

and_left : (a b : Bool) → a && b ≡ true → a ≡ true
and_left true b e = refl
and_left false b e = e

and_right : (a b : Bool) → a && b ≡ true → b ≡ true
and_right true b e = e
and_right false b e = no e

not_both : (a : Bool) → a ≡ true → not a ≡ true → ⊥
not_both true p q = true≢false (sym q)
not_both false p q = true≢false (sym p)

pub lt_trans : (x y z : Float) → lt x y ≡ true → lt y z ≡ true → lt x z ≡ true
unfolding lt
lt_trans nan y z p q = no p
lt_trans (inf s) nan z p q = no p
lt_trans (inf s) (inf t) nan p q = no q
lt_trans (inf s) (inf t) (inf u) p q = absurd (not_both t (and_left t (not u) q) (and_right s (not t) p))
lt_trans (inf s) (inf t) (fin u o f) p q = and_left s (not t) p
lt_trans (inf s) (fin t n d) nan p q = no q
lt_trans (inf s) (fin t n d) (inf u) p q = rw (p, q) refl
lt_trans (inf s) (fin t n d) (fin u o f) p q = p
lt_trans (fin s m e) nan z p q = no p
lt_trans (fin s m e) (inf t) nan p q = no q
lt_trans (fin s m e) (inf t) (inf u) p q = absurd (not_both t (and_left t (not u) q) p)
lt_trans (fin s m e) (inf t) (fin u o f) p q = absurd (not_both t q p)
lt_trans (fin s m e) (fin t n d) nan p q = no q
lt_trans (fin s m e) (fin t n d) (inf u) p q = q
lt_trans (fin s m e) (fin t n d) (fin u o f) p q =
    xz s u m o e d f
    ∙ below_trans s t u (m * up e * down d * down f) (n * up d * down e * down f) (o * up f * down d * down e) (sym (xy s t m n e d f) ∙ p) (sym (yz t u n o e d f) ∙ q)

irr : (s : Bool) → s && not s ≡ false
irr true = refl
irr false = refl

below_irr : (s : Bool) (a : ℕ) → below s a s a ≡ false
below_irr false a = le-ltb a a (omega arith)
below_irr true a = le-ltb a a (omega arith)

pub lt_irr : (x : Float) → lt x x ≡ false
unfolding lt
lt_irr nan = refl
lt_irr (inf s) = irr s
lt_irr (fin s m e) = below_irr s (m * up e * down e)

inf_co : (s t u : Bool) → s && not u ≡ true → t && not u ≡ false → s && not t ≡ true
inf_co true true true p q = no p
inf_co true true false p q = absurd (true≢false q)
inf_co true false u p q = refl
inf_co false t u p q = no p

-- where x is below z, and y is a number that is not, x is below y
pub lt_co : (x y z : Float) → is_nan y ≡ false → lt x z ≡ true → lt y z ≡ false → lt x y ≡ true
unfolding lt is_nan
lt_co nan y z h p q = no p
lt_co (inf s) nan z h p q = absurd (true≢false h)
lt_co (inf s) (inf t) nan h p q = no p
lt_co (inf s) (inf t) (inf u) h p q = inf_co s t u p q
lt_co (inf s) (inf t) (fin u o f) h p q = rw (p, q) refl
lt_co (inf s) (fin t n d) nan h p q = no p
lt_co (inf s) (fin t n d) (inf u) h p q = and_left s (not u) p
lt_co (inf s) (fin t n d) (fin u o f) h p q = p
lt_co (fin s m e) nan z h p q = absurd (true≢false h)
lt_co (fin s m e) (inf t) nan h p q = no p
lt_co (fin s m e) (inf true) (inf u) h p q = absurd (true≢false (sym p ∙ q))
lt_co (fin s m e) (inf false) (inf u) h p q = refl
lt_co (fin s m e) (inf true) (fin u o f) h p q = absurd (true≢false q)
lt_co (fin s m e) (inf false) (fin u o f) h p q = refl
lt_co (fin s m e) (fin t n d) nan h p q = no p
lt_co (fin s m e) (fin t n d) (inf u) h p q = absurd (true≢false (sym p ∙ q))
lt_co (fin s m e) (fin t n d) (fin u o f) h p q =
    xy s t m n e d f
    ∙ below_co s t u (m * up e * down d * down f) (n * up d * down e * down f) (o * up f * down d * down e) (sym (xz s u m o e d f) ∙ p) (sym (yz t u n o e d f) ∙ q)
