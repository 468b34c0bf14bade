-- Sums of numbers, one more at a time; widths and their top bits. Assumes nothing.
use Rattle.std.proofs.Common.{◌≡◌, ℕ, zero, suc, ◌+◌, ◌*◌, ◌/◌, ◌%◌, ◌^◌, ◌<◌, ◌≤◌, Bool, true, false, eqb, List, get_or, drop, sym, refl, ap, ◌∙◌, subst, ap₂, mul-le-mul_right, suc-mul, mul-zero, mul-one, div-one, add-one, arith, get_or-drop, shr-shr, eqb-true}
use borrow.Author.Tests.{eqb-false}
use Rattle.number.specs.Number.{number}
use Rattle.number.proofs.Laws.{number_lt}
use Rattle.number.specs.Sizes.{Sized as Bytes}
use Rattle.aggregates.specs.patterns.Parts.{Sized, top_bit, up_to}

-- ---- sums

pub up_none : (f : ℕ → ℕ) → 0 ≡ up_to f 0
unfolding up_to
up_none f = refl

-- one more
pub up_more : (f : ℕ → ℕ) (i a v : ℕ) → a ≡ up_to f i → v ≡ f i → a + v ≡ up_to f (i + 1)
unfolding up_to
up_more f i a v p q = ap₂ ◌+◌ p q ∙ ap (up_to f) (sym (add-one i))

pub up_ones : (n : ℕ) → n ≡ up_to (λ i. 1) n
unfolding up_to
up_ones zero = refl
up_ones (suc n) = omega (arith, up_ones n)

-- ---- widths

-- a fact of each of the four
pub four : (P : ℕ → Type 0) → P 1 → P 2 → P 4 → P 8 → (w : ℕ) → Sized w → P w
four P a b c d w h = go (eqb w 1) refl (eqb w 2) refl (eqb w 4) refl
  where
    go : (x : Bool) → eqb w 1 ≡ x → (y : Bool) → eqb w 2 ≡ y → (z : Bool) → eqb w 4 ≡ z → P w
    go true p y q z r = subst P (sym (eqb-true w 1 p)) a
    go false p true q z r = subst P (sym (eqb-true w 2 q)) b
    go false p false q true r = subst P (sym (eqb-true w 4 r)) c
    go false p false q false r = subst P (sym (h (eqb-false w 1 p) (eqb-false w 2 q) (eqb-false w 4 r))) d

pub some_bytes : (w : ℕ) → Sized w → (1 ≤ w) × (w ≤ 8)
some_bytes = four (λ w. (1 ≤ w) × (w ≤ 8)) (omega arith, omega arith) (omega arith, omega arith) (omega arith, omega arith) (omega arith, omega arith)

-- a fact of each from 1 to 8
eight : (P : ℕ → Type 0) → P 1 → P 2 → P 3 → P 4 → P 5 → P 6 → P 7 → P 8 → (w : ℕ) → Bytes w → P w
eight P a b c d e f g h zero s = absurd (omega (arith, s.some))
eight P a b c d e f g h (suc zero) s = a
eight P a b c d e f g h (suc (suc zero)) s = b
eight P a b c d e f g h (suc (suc (suc zero))) s = c
eight P a b c d e f g h (suc (suc (suc (suc zero)))) s = d
eight P a b c d e f g h (suc (suc (suc (suc (suc zero))))) s = e
eight P a b c d e f g h (suc (suc (suc (suc (suc (suc zero)))))) s = f
eight P a b c d e f g h (suc (suc (suc (suc (suc (suc (suc zero))))))) s = g
eight P a b c d e f g h (suc (suc (suc (suc (suc (suc (suc (suc zero)))))))) s = h
eight P a b c d e f g h (suc (suc (suc (suc (suc (suc (suc (suc (suc w))))))))) s = absurd (omega (arith, s.eight))

-- the top bit of a number of w bytes is 0 or 1
pub one_top : (x w : ℕ) → Bytes w → x < 256 ^ w → x / 2 ^ top_bit w ≤ 1
one_top x = eight (λ w. x < 256 ^ w → x / 2 ^ top_bit w ≤ 1) (λ l. omega arith) (λ l. omega arith) (λ l. omega arith) (λ l. omega arith) (λ l. omega arith) (λ l. omega arith) (λ l. omega arith) (λ l. omega arith)

pub read_lt : (body : List ℕ) → ((j : ℕ) → get_or body j 0 < 256) → (at w x : ℕ) → x ≡ number w (drop at body) → x < 256 ^ w
read_lt body u at w x e = rw e (number_lt w (drop at body) (λ j. rw get_or-drop (u (at + j))))

-- ---- a turn

-- number i of n stands within
pub within : (at w n l i : ℕ) → i < n → at + n * w ≤ l → at + i * w + w ≤ l
within at w n l i h e = omega (arith, rw suc-mul at (mul-le-mul_right w h))

pub times_bit : (x b : ℕ) → b ≤ 1 → x * b ≤ x
times_bit x zero h = omega (arith, mul-zero x)
times_bit x (suc zero) h = omega (arith, mul-one x)
times_bit x (suc (suc b)) h = absurd (omega arith)

pub low_room : (a x i n : ℕ) → a ≤ i * 4294967295 → i < n → n ≤ 1048576 → a + x % 4294967296 < 18446744073709551616
low_room a x i n h k l = omega arith

pub high_room : (a x i n : ℕ) → a ≤ i * 4294967295 → i < n → n ≤ 1048576 → x < 18446744073709551616 → a + x / 4294967296 < 18446744073709551616
high_room a x i n h k l m = omega arith

pub one_room : (a x i n : ℕ) → a ≤ i → i < n → n ≤ 1048576 → x ≤ 1 → a + x < 18446744073709551616
one_room a x i n h k l m = omega arith

pub low_most : (a x i : ℕ) → a ≤ i * 4294967295 → a + x % 4294967296 ≤ (i + 1) * 4294967295
low_most a x i h = omega arith

pub high_most : (a x i : ℕ) → a ≤ i * 4294967295 → x < 18446744073709551616 → a + x / 4294967296 ≤ (i + 1) * 4294967295
high_most a x i h k = omega arith

pub one_most : (a x i : ℕ) → a ≤ i → x ≤ 1 → a + x ≤ i + 1
one_most a x i h k = omega arith

-- the bits from 0 on are all
pub first_bits : (m : ℕ) → m ≡ m / 2 ^ 0
first_bits m = sym (div-one m)

-- the bits from i on
pub next_bits : (m i b : ℕ) → b ≡ m / 2 ^ i → b / 2 ≡ m / 2 ^ (i + 1)
next_bits m i b e = ap (λ k. k / 2) e ∙ shr-shr m i 1
