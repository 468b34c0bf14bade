-- The eight whole-number formats by their codes. Assumes nothing.
use Rattle.std.proofs.Common.{◌≡◌, ℕ, zero, suc, ◌-◌, ◌≤◌, true, leb, refl, inl, inr, arith, leb-true}
use Rattle.columnar.specs.Types.{width, limit}
use Rattle.columnar.specs.Wider.{integer}
use Rattle.schema.specs.formats.Code.{is_integer, width_of}
use Rattle.schema.specs.formats.Types.{number_of}
use Rattle.array_data.proofs.lent_tables.Laws.{and_left, and_right}
use Rattle.aggregates.specs.patterns.Parts.{Sized}
use Rattle.aggregates.specs.cells.Cells.{Topped, number_at}

-- a fact of each of the eight
pub eight : (P : ℕ → Type 0) → P 1 → P 2 → P 3 → P 4 → P 5 → P 6 → P 7 → P 8 → (c : ℕ) → is_integer c ≡ true → P c
eight P a b d e f g h i c q = by c (leb-true 1 c (and_left (leb 1 c) (leb c 8) q)) (leb-true c 8 (and_right (leb 1 c) (leb c 8) q))
  where
    by : (c : ℕ) → 1 ≤ c → c ≤ 8 → P c
    by zero l m = absurd (omega arith)
    by (suc zero) l m = a
    by (suc (suc zero)) l m = b
    by (suc (suc (suc zero))) l m = d
    by (suc (suc (suc (suc zero)))) l m = e
    by (suc (suc (suc (suc (suc zero))))) l m = f
    by (suc (suc (suc (suc (suc (suc zero)))))) l m = g
    by (suc (suc (suc (suc (suc (suc (suc zero))))))) l m = h
    by (suc (suc (suc (suc (suc (suc (suc (suc zero)))))))) l m = i
    by (suc (suc (suc (suc (suc (suc (suc (suc (suc c))))))))) l m = absurd (omega arith)

pub code_width_lem : (c : ℕ) → is_integer c ≡ true → width_of c ≡ width (number_at c)
unfolding number_of
code_width_lem = eight (λ c. width_of c ≡ width (number_at c)) refl refl refl refl refl refl refl refl

pub code_integer : (c : ℕ) → is_integer c ≡ true → integer (number_at c) ≡ true
unfolding number_of
code_integer = eight (λ c. integer (number_at c) ≡ true) refl refl refl refl refl refl refl refl

pub code_sized : (c : ℕ) → is_integer c ≡ true → Sized (width_of c)
code_sized =
    eight (λ c. Sized (width_of c)) (λ p q r. absurd (p refl)) (λ p q r. absurd (p refl)) (λ p q r. absurd (q refl)) (λ p q r. absurd (q refl)) (λ p q r. absurd (r refl)) (λ p q r. absurd (r refl)) (λ p q r. refl) (λ p q r. refl)

pub code_topped : (c : ℕ) → is_integer c ≡ true → Topped (width_of c) (limit (number_at c) - 1)
unfolding number_of
code_topped = eight (λ c. Topped (width_of c) (limit (number_at c) - 1)) (inr refl) (inl refl) (inr refl) (inl refl) (inr refl) (inl refl) (inr refl) (inl refl)

pub code_wide : (c : ℕ) → is_integer c ≡ true → 1 ≤ width (number_at c)
unfolding number_of
code_wide = eight (λ c. 1 ≤ width (number_at c)) (omega arith) (omega arith) (omega arith) (omega arith) (omega arith) (omega arith) (omega arith) (omega arith)

pub the_last : (c : ℕ) → is_integer c ≡ true → (c ≡ 1 → ⊥) → (c ≡ 2 → ⊥) → (c ≡ 3 → ⊥) → (c ≡ 4 → ⊥) → (c ≡ 5 → ⊥) → (c ≡ 6 → ⊥) → (c ≡ 7 → ⊥) → c ≡ 8
the_last c q n1 n2 n3 n4 n5 n6 n7 =
    eight (λ k. c ≡ k → c ≡ 8) (λ e. absurd (n1 e)) (λ e. absurd (n2 e)) (λ e. absurd (n3 e)) (λ e. absurd (n4 e)) (λ e. absurd (n5 e)) (λ e. absurd (n6 e)) (λ e. absurd (n7 e)) (λ e. e) c q refl
