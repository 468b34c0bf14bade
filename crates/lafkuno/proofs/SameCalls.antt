-- What the call over two rows answers and leaves, by the length of what is lent for the answer. Assumes nothing.
use mathlib.Core.Path.{◌≡◌, refl, sym, ap, ◌∙◌}
use mathlib.Core.Bool.{Bool, true, false, cond}
use mathlib.Core.List.{List, [], ◌∷◌}
use Prim.Native.Nat.{ℕ, suc}
use native.Mathlib.Omega.{arith}
use lib.ListN.{length, set}
use lib.Dec.{eqb}
use borrow.Author.Tests.{eq-eqb, ne_eqb}
use Rattle.std.specs.Prelude.{Result, Ok, Err}
use Rattle.lafkuno.specs.Sums.{flag_of}
use Rattle.lafkuno.specs.Same.{same_ground, same_numbers}

one_set : (answer : List ℕ) (k : ℕ) → length answer ≡ 1 → set answer 0 k ≡ k ∷ []
one_set [] k h = absurd (omega arith)
one_set (x ∷ []) k h = refl
one_set (x ∷ y ∷ s) k h = absurd (omega arith)

module _ (a : Result Bool ℕ) (answer : List ℕ) where
  pub same_short : (length answer ≡ 1 → ⊥) → (t : Bool) → a ≡ Ok t → (14 ≡ same_ground a answer) × (answer ≡ same_numbers a answer)
  unfolding same_ground same_numbers
  same_short h t e = rw e (rw (ne_eqb (length answer) 1 h), rw (ne_eqb (length answer) 1 h))

  pub same_refused : (g : ℕ) → a ≡ Err g → (g ≡ same_ground a answer) × (answer ≡ same_numbers a answer)
  unfolding same_ground same_numbers
  same_refused g e = rw e (refl, alike (eqb (length answer) 1))
    where
      alike : (b : Bool) → answer ≡ cond b answer answer
      alike true = refl
      alike false = refl

  pub same_told : length answer ≡ 1 → (t : Bool) → a ≡ Ok t → (k : ℕ) → k ≡ flag_of t → (0 ≡ same_ground a answer) × (set answer 0 k ≡ same_numbers a answer)
  unfolding same_ground same_numbers
  same_told h t e k f = rw e (rw (eq-eqb (length answer) 1 h), one_set answer k h ∙ ap (λ j. j ∷ []) f ∙ rw (eq-eqb (length answer) 1 h))
