-- Bits of a word and of the bytes that it was read from. Assumes nothing.
use Rattle.std.proofs.Common.{◌≡◌, ℕ, zero, suc, ◌+◌, ◌*◌, ◌/◌, ◌%◌, ◌^◌, ◌<◌, true, false, cond, eqb, List, get_or, drop, sym, refl, ap, ◌∙◌, ap₂, mod-lt, zero-mul, arith, get_or-drop, get_or-take}
use lib.ListN.{get_or-replicate}
use lib.Bits.{bit_and, and_shr, and_mod}
use Rattle.bits.specs.Bits.{digits, bits, bits_at}
use Rattle.bits.proofs.Laws.{digit, bit_at}
use Rattle.bits.proofs.Steps.{digits_ones}
use Rattle.aggregates.specs.patterns.Parts.{bit_of}
use Rattle.aggregates.specs.declared.cells.Cells.{Cells}
use Rattle.aggregates.specs.cells.Cells.{valid_at}
use Rattle.aggregates.specs.blocks.Blocks.{as_bit, valid_bit}

-- a bit is the test that it is 1
bit_test : (b : ℕ) → b < 2 → b ≡ as_bit (eqb b 1)
bit_test zero h = refl
bit_test (suc zero) h = refl
bit_test (suc (suc b)) h = absurd (omega arith)

-- bit k of a word that holds the 64 bits from p on
word_bit : (s : List ℕ) (r p k : ℕ) → digits 64 r ≡ bits_at p 64 s → k < 64 → bit_of r k ≡ get_or s ((p + k) / 8) 0 / 2 ^ ((p + k) % 8) % 2
unfolding bits_at
word_bit s r p k e h =
    sym (digit 64 k r h)
    ∙ ap (λ l. get_or l k 0) e
    ∙ get_or-take 64 (drop p (bits s)) k 0 h
    ∙ get_or-drop p (bits s) k 0
    ∙ bit_at s (p + k)

module _ (body : List ℕ) (c : Cells) (slot r : ℕ) where
  pub valid_masked : c.masked ≡ true → digits 64 r ≡ bits_at (8 * (c.mask + slot / 8) + slot % 8) 64 body → (k : ℕ) → k < 64 → bit_of r k ≡ valid_bit body c (slot + k)
  unfolding valid_at
  valid_masked h e k l =
      let p : (8 * (c.mask + slot / 8) + slot % 8 + k) / 8 ≡ c.mask + (slot + k) / 8 = omega arith in
      let q : (8 * (c.mask + slot / 8) + slot % 8 + k) % 8 ≡ (slot + k) % 8 = omega arith in
      word_bit body r (8 * (c.mask + slot / 8) + slot % 8) k e l
      ∙ ap₂ (λ a b. get_or body a 0 / 2 ^ b % 2) p q
      ∙ bit_test _ (mod-lt _ (omega arith))
      ∙ sym (ap (λ v. as_bit (cond v (eqb (get_or body (c.mask + (slot + k) / 8) 0 / 2 ^ ((slot + k) % 8) % 2) 1) true)) h)

-- the bits of a word of ones
ones_bit : (k : ℕ) → k < 64 → bit_of 18446744073709551615 k ≡ 1
ones_bit k h = sym (digit 64 k 18446744073709551615 h) ∙ ap (λ l. get_or l k 0) (digits_ones 64) ∙ get_or-replicate 64 k 1 0 h

pub valid_plain : (body : List ℕ) (c : Cells) (slot k : ℕ) → c.masked ≡ false → k < 64 → bit_of 18446744073709551615 k ≡ valid_bit body c (slot + k)
unfolding valid_at
valid_plain body c slot k h l = ones_bit k l ∙ rw h

both_bit : (a b : ℕ) → a < 2 → b < 2 → bit_and a b ≡ a * b
both_bit zero b h k = sym (zero-mul b)
both_bit (suc zero) zero h k = refl
both_bit (suc zero) (suc zero) h k = refl
both_bit (suc zero) (suc (suc b)) h k = absurd (omega arith)
both_bit (suc (suc a)) b h k = absurd (omega arith)

-- bit k of both
pub and_bit : (x y k : ℕ) → bit_of (bit_and x y) k ≡ bit_of x k * bit_of y k
and_bit x y k =
    ap (λ z. z % 2) (and_shr x y k)
    ∙ and_mod (x / 2 ^ k) (y / 2 ^ k) 1
    ∙ both_bit (bit_of x k) (bit_of y k) (mod-lt _ (omega arith)) (mod-lt _ (omega arith))
