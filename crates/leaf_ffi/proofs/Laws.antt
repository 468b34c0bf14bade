-- What the tests of ranges answer, and what a call answers by them. Assumes nothing.
use Rattle.std.proofs.Common.{◌≡◌, ℕ, ◌+◌, ◌-◌, ◌*◌, ◌/◌, ◌%◌, ◌<◌, ◌≤◌, Bool, true, false, cond, ◌&&◌, leb, sym, refl, ap, ◌∙◌, mul_comm, le-div_iff_mul-le, arith, leb-false, leb-true}
use borrow.Author.Tests.{lt-leb}

-- two comparisons that follow from each other have one answer
pub leb_same : (a b x y : ℕ) → (a ≤ b → x ≤ y) → (x ≤ y → a ≤ b) → leb a b ≡ leb x y
leb_same a b x y f g = go (leb a b) (leb x y) refl refl
  where
    go : (s t : Bool) → leb a b ≡ s → leb x y ≡ t → s ≡ t
    go true true p q = refl
    go false false p q = refl
    go true false p q = absurd (omega (arith, f (leb-true a b p), leb-false x y q))
    go false true p q = absurd (omega (arith, g (leb-true x y q), leb-false a b p))

-- a start past the end
pub past : (len at k : ℕ) → len < at → false ≡ leb (at + k) len
past len at k h = sym (lt-leb (at + k) len (omega arith))

-- n entries of w bytes fit where n is at most the quotient
pub counted : (len at w n : ℕ) → at ≤ len → 1 ≤ w → leb n ((len - at) / w) ≡ leb (at + w * n) len
counted len at w n h p =
    leb_same n ((len - at) / w) (at + w * n) len
    (λ u. omega (arith, (le-div_iff_mul-le {k = w} (omega arith)).0 u, mul_comm n w))
    (λ u. (le-div_iff_mul-le {k = w} (omega arith)).1 (omega (arith, mul_comm n w)))

-- n bits fit by whole bytes and the rest
pub counted_bits : (len at b n : ℕ) → at ≤ len → b / 8 ≤ len - at → n / 8 ≤ len - at - b / 8
    → leb ((b % 8 + n % 8 + 7) / 8) (len - at - b / 8 - n / 8) ≡ leb (8 * at + b + n) (8 * len)
counted_bits len at b n h p q =
    leb_same ((b % 8 + n % 8 + 7) / 8) (len - at - b / 8 - n / 8) (8 * at + b + n) (8 * len)
    (λ u. omega arith)
    (λ u. omega arith)

-- the second of two tests answers where the first is true
pub second : {r s a : Bool} (b : Bool) → r ≡ a → r ≡ true → s ≡ b → s ≡ (a && b)
second b p q e = e ∙ ap (λ x. x && b) (sym q ∙ p)

pub not_first : {r a : Bool} (b : Bool) → r ≡ a → r ≡ false → false ≡ (a && b)
not_first b p q = ap (λ x. x && b) (sym q ∙ p)

-- what holds where two ranges were tested
pub ranges : {r : Bool} (a b x y : ℕ) → r ≡ (leb a b && leb x y) → r ≡ true → (a ≤ b) × (x ≤ y)
ranges a b x y p q = go (leb a b) refl (sym p ∙ q)
  where
    go : (t : Bool) → leb a b ≡ t → (t && leb x y) ≡ true → (a ≤ b) × (x ≤ y)
    go true e h = (leb-true a b e, leb-true x y h)
    go false e h = let z : ◌≡◌ {A = ℕ} 0 1 = cc in absurd (omega arith)

-- the answer of a call by its test
pub done : {A : Type 0} {r t : Bool} (x y : A) → r ≡ t → r ≡ true → x ≡ cond t x y
done x y p q = ap (λ u. cond u x y) (sym q ∙ p)

pub refused : {A : Type 0} {r t : Bool} (x y : A) → r ≡ t → r ≡ false → y ≡ cond t x y
refused x y p q = ap (λ u. cond u x y) (sym q ∙ p)
