-- Halves and powers of a number's size, and the entries that stand before a byte. Assumes nothing.
use Rattle.std.proofs.Common.{◌≡◌, ℕ, zero, suc, ◌+◌, ◌-◌, ◌*◌, ◌%◌, ◌^◌, ◌<◌, ◌≤◌, List, get_or, drop, refl, ◌∙◌, arith, get_or-drop, Bool, true, false, ltb, ltb-true, ltb-false}
use Rattle.std.proofs.Math.Nat.{mod-eq_of_lt}
use Rattle.number.specs.Number.{entry}
use Rattle.number.specs.Sizes.{Sized}
use Rattle.number.proofs.Laws.{number_lt}
use Rattle.columnar.specs.Types.{half}

-- what holds of each size
by_size : (P : ℕ → Type 0) → P 1 → P 2 → P 3 → P 4 → P 5 → P 6 → P 7 → P 8 → (w : ℕ) → 1 ≤ w → w ≤ 8 → P w
by_size P a b c d e f g h zero l m = absurd (omega arith)
by_size P a b c d e f g h (suc zero) l m = a
by_size P a b c d e f g h (suc (suc zero)) l m = b
by_size P a b c d e f g h (suc (suc (suc zero))) l m = c
by_size P a b c d e f g h (suc (suc (suc (suc zero)))) l m = d
by_size P a b c d e f g h (suc (suc (suc (suc (suc zero))))) l m = e
by_size P a b c d e f g h (suc (suc (suc (suc (suc (suc zero)))))) l m = f
by_size P a b c d e f g h (suc (suc (suc (suc (suc (suc (suc zero))))))) l m = g
by_size P a b c d e f g h (suc (suc (suc (suc (suc (suc (suc (suc zero)))))))) l m = h
by_size P a b c d e f g h (suc (suc (suc (suc (suc (suc (suc (suc (suc w))))))))) l m = absurd (omega arith)

module _ {w : ℕ} (s : Sized w) where
  pub half_bits : half w ≡ 2 ^ (8 * w - 1)
  half_bits = by_size (λ w. half w ≡ 2 ^ (8 * w - 1)) refl refl refl refl refl refl refl refl w s.some s.eight

  pub whole_bits : 256 ^ w ≡ 2 ^ (8 * w)
  whole_bits = by_size (λ w. 256 ^ w ≡ 2 ^ (8 * w)) refl refl refl refl refl refl refl refl w s.some s.eight

  pub two_halves : half w + half w ≡ 256 ^ w
  two_halves = by_size (λ w. half w + half w ≡ 256 ^ w) refl refl refl refl refl refl refl refl w s.some s.eight

  pub half_low : half w ≤ 9223372036854775808
  half_low = by_size (λ w. half w ≤ 9223372036854775808) (omega arith) (omega arith) (omega arith) (omega arith) (omega arith) (omega arith) (omega arith) (omega arith) w s.some s.eight

  pub half_some : 0 < half w
  half_some = by_size (λ w. 0 < half w) (omega arith) (omega arith) (omega arith) (omega arith) (omega arith) (omega arith) (omega arith) (omega arith) w s.some s.eight

  pub shifted : {k : ℕ} → k ≡ w → 1 * 2 ^ (8 * k - 1) % 18446744073709551616 ≡ half w
  shifted e = rw e (by_size (λ w. 1 * 2 ^ (8 * w - 1) % 18446744073709551616 ≡ half w) refl refl refl refl refl refl refl refl w s.some s.eight)

  pub ones_is : 18446744073709551615 % 256 ^ w ≡ 256 ^ w - 1
  ones_is = by_size (λ w. 18446744073709551615 % 256 ^ w ≡ 256 ^ w - 1) refl refl refl refl refl refl refl refl w s.some s.eight

  pub none_is : {k : ℕ} → k ≡ 0 % 256 ^ w → k ≡ 0
  none_is e = e ∙ mod-eq_of_lt (omega (arith, two_halves, half_some))

-- what is less than b and yet b's lowest bytes
pub past : {m k b : ℕ} → k ≡ b % m → k < b → m ≤ b
past {m} {k} {b} e l = go (ltb b m) refl
  where
    go : (t : Bool) → ltb b m ≡ t → m ≤ b
    go true q = let x : b < m = ltb-true b m q in let y : b % m ≡ b = mod-eq_of_lt x in absurd (omega arith)
    go false q = ltb-false b m q

-- an entry of w bytes
pub entry_fits : (w : ℕ) (s : List ℕ) (at : ℕ) → ((j : ℕ) → get_or s j 0 < 256) → (i : ℕ) → entry w s at i < 256 ^ w
entry_fits w s at small i = number_lt w (drop (at + w * i) s) (λ j. rw get_or-drop (small (at + w * i + j)))
