-- The ten fixed-width formats by their codes, and a node's type by them. Assumes nothing.
use mathlib.Core.Path.{◌≡◌, refl, sym, subst}
use mathlib.Core.Bool.{true}
use Prim.Native.Nat.{ℕ, zero, suc, ◌%◌, ◌≤◌}
use native.Mathlib.Omega.{arith}
use lib.Dec.{leb, ltb}
use borrow.Author.Tests.{leb-true}
use Rattle.columnar.specs.Types.{width}
use Rattle.columnar.specs.Formed.{RunWidth, two, four, eight}
use Rattle.schema.specs.formats.Code.{is_fixed, width_of}
use Rattle.schema.specs.formats.Types.{number_of, number_or}
use Rattle.array_data.proofs.lent_tables.Laws.{and_left, and_right}
use Rattle.aggregates.specs.patterns.Parts.{Sized}
use Rattle.plan.specs.parts.Parts.{buffer_count}

-- a fact of each of the ten
pub ten : (P : ℕ → Type 0) → P 1 → P 2 → P 3 → P 4 → P 5 → P 6 → P 7 → P 8 → P 9 → P 10 → (c : ℕ) → is_fixed c ≡ true → P c
ten P a b d e f g h i j k c q = by c (leb-true 1 c (and_left (leb 1 c) (leb c 10) q)) (leb-true c 10 (and_right (leb 1 c) (leb c 10) q))
  where
    by : (c : ℕ) → 1 ≤ c → c ≤ 10 → P c
    by zero l m = absurd (omega arith)
    by (suc zero) l m = a
    by (suc (suc zero)) l m = b
    by (suc (suc (suc zero))) l m = d
    by (suc (suc (suc (suc zero)))) l m = e
    by (suc (suc (suc (suc (suc zero))))) l m = f
    by (suc (suc (suc (suc (suc (suc zero)))))) l m = g
    by (suc (suc (suc (suc (suc (suc (suc zero))))))) l m = h
    by (suc (suc (suc (suc (suc (suc (suc (suc zero)))))))) l m = i
    by (suc (suc (suc (suc (suc (suc (suc (suc (suc zero))))))))) l m = j
    by (suc (suc (suc (suc (suc (suc (suc (suc (suc (suc zero)))))))))) l m = k
    by (suc (suc (suc (suc (suc (suc (suc (suc (suc (suc (suc c))))))))))) l m = absurd (omega arith)

pub code_width_lem : (c : ℕ) → is_fixed c ≡ true → width_of c ≡ width (number_or (number_of c))
unfolding number_of
code_width_lem = ten (λ c. width_of c ≡ width (number_or (number_of c))) refl refl refl refl refl refl refl refl refl refl

pub code_sized : (c : ℕ) → is_fixed c ≡ true → Sized (width_of c)
code_sized =
    ten (λ c. Sized (width_of c)) (λ p q r. absurd (p refl)) (λ p q r. absurd (p refl)) (λ p q r. absurd (q refl)) (λ p q r. absurd (q refl)) (λ p q r. absurd (r refl)) (λ p q r. absurd (r refl)) (λ p q r. refl) (λ p q r. refl)
    (λ p q r. absurd (r refl)) (λ p q r. refl)

pub code_wide : (c : ℕ) → is_fixed c ≡ true → 1 ≤ width_of c
code_wide = ten (λ c. 1 ≤ width_of c) (omega arith) (omega arith) (omega arith) (omega arith) (omega arith) (omega arith) (omega arith) (omega arith) (omega arith) (omega arith)

-- a node of numbers has validity where it keeps nulls, and one buffer
pub code_low : (c : ℕ) → is_fixed c ≡ true → ltb (c % 256) 21 ≡ true
code_low = ten (λ c. ltb (c % 256) 21 ≡ true) refl refl refl refl refl refl refl refl refl refl

pub one_buffer : (c : ℕ) → is_fixed c ≡ true → buffer_count (c % 256) ≡ 1
one_buffer = ten (λ c. buffer_count (c % 256) ≡ 1) refl refl refl refl refl refl refl refl refl refl

pub ends_sized : (w : ℕ) → RunWidth w → Sized w
ends_sized w two = λ p q r. absurd (q refl)
ends_sized w four = λ p q r. absurd (r refl)
ends_sized w eight = λ p q r. refl

pub ends_three : (w : ℕ) → RunWidth w → (w ≡ 2 → ⊥) → (w ≡ 4 → ⊥) → w ≡ 8
ends_three w two = λ p q. absurd (p refl)
ends_three w four = λ p q. absurd (q refl)
ends_three w eight = λ p q. refl

pub three_as : {w u : ℕ} → w ≡ u → RunWidth u → (w ≡ 2 → ⊥) → (w ≡ 4 → ⊥) → w ≡ 8
three_as {w} {u} e r = subst (λ z. (z ≡ 2 → ⊥) → (z ≡ 4 → ⊥) → z ≡ 8) (sym e) (ends_three u r)
