-- Which sums 64 bits hold, by two halves and what is below zero. Assumes nothing.
use Rattle.std.specs.Prelude.{Some, None}
use Rattle.std.proofs.Common.{◌≡◌, ℕ, suc, ◌+◌, ◌-◌, ◌*◌, ◌<◌, ◌≤◌, true, false, ℤ, pos, negsuc, ◌+ℤ◌, ap, ◌∙◌, arith, le-ltb, lt-ltb}
use Rattle.number.specs.Number.{signed}
use Rattle.aggregates.specs.tally.Sums.{fits, total_of}
use Rattle.aggregates.proofs.tally.Integers.{reached}

pos_by : {a b : ℕ} → pos a ≡ pos b → a ≡ b
pos_by e = cc

held : (z : ℤ) → fits z ≡ true → Some z ≡ total_of z
unfolding total_of
held z h = rw h

outside : (z : ℤ) → fits z ≡ false → None ≡ total_of z
unfolding total_of
outside z h = rw h

from_zero : (l : ℕ) → l < 9223372036854775808 → signed 8 l ≡ pos l
from_zero l h = rw (lt-ltb l 9223372036854775808 h)

below_zero : (l n : ℕ) → 9223372036854775808 ≤ l → l + suc n ≡ 18446744073709551616 → signed 8 l ≡ negsuc n
below_zero l n h e = let q : 18446744073709551616 - suc l ≡ n = omega arith in rw (le-ltb l 9223372036854775808 h, q)

module _ (h l b : ℕ) (small : l < 18446744073709551616) where
  pub level : (z : ℤ) → pos (h * 18446744073709551616 + l) ≡ z +ℤ pos (b * 18446744073709551616) → h ≡ b → l < 9223372036854775808 → Some (signed 8 l) ≡ total_of z
  level (pos n) e q k =
      let i : l ≡ n = omega (arith, pos_by e) in
      ap Some (from_zero l k ∙ ap pos i) ∙ held (pos n) (lt-ltb n 9223372036854775808 (omega arith))
  level (negsuc n) e q k = absurd (omega (arith, reached n (h * 18446744073709551616 + l) (b * 18446744073709551616) e))

  pub level_outside : (z : ℤ) → pos (h * 18446744073709551616 + l) ≡ z +ℤ pos (b * 18446744073709551616) → h ≡ b → 9223372036854775808 ≤ l → None ≡ total_of z
  level_outside (pos n) e q k = outside (pos n) (le-ltb n 9223372036854775808 (omega (arith, pos_by e)))
  level_outside (negsuc n) e q k = absurd (omega (arith, reached n (h * 18446744073709551616 + l) (b * 18446744073709551616) e))

  pub under : (z : ℤ) → pos (h * 18446744073709551616 + l) ≡ z +ℤ pos (b * 18446744073709551616) → suc h ≡ b → 9223372036854775808 ≤ l → Some (signed 8 l) ≡ total_of z
  under (pos n) e q k = absurd (omega (arith, pos_by e))
  under (negsuc n) e q k =
      let r = reached n (h * 18446744073709551616 + l) (b * 18446744073709551616) e in
      let i : l + suc n ≡ 18446744073709551616 = omega (arith, r) in
      ap Some (below_zero l n k i) ∙ held (negsuc n) (lt-ltb n 9223372036854775808 (omega arith))

  pub under_outside : (z : ℤ) → pos (h * 18446744073709551616 + l) ≡ z +ℤ pos (b * 18446744073709551616) → suc h ≡ b → l < 9223372036854775808 → None ≡ total_of z
  under_outside (pos n) e q k = absurd (omega (arith, pos_by e))
  under_outside (negsuc n) e q k =
      let r = reached n (h * 18446744073709551616 + l) (b * 18446744073709551616) e in
      outside (negsuc n) (le-ltb n 9223372036854775808 (omega (arith, r)))

  pub far : (z : ℤ) → pos (h * 18446744073709551616 + l) ≡ z +ℤ pos (b * 18446744073709551616) → (h ≡ b → ⊥) → (suc h ≡ b → ⊥) → None ≡ total_of z
  far (pos n) e p q =
      let r = pos_by e in
      outside (pos n) (le-ltb n 9223372036854775808 (omega (arith, r, p, q)))
  far (negsuc n) e p q =
      let r = reached n (h * 18446744073709551616 + l) (b * 18446744073709551616) e in
      outside (negsuc n) (le-ltb n 9223372036854775808 (omega (arith, r, p, q)))
