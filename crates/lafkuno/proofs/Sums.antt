-- What the calls over exact sums answer and leave, by the length of what is lent for the answer. Assumes nothing.
use mathlib.Core.Path.{◌≡◌, refl, sym, ap, ◌∙◌}
use mathlib.Core.Bool.{Bool, true, false, cond}
use mathlib.Core.List.{List, [], ◌∷◌}
use Prim.Native.Nat.{ℕ}
use lib.ListN.{length}
use lib.Dec.{eqb}
use borrow.Author.Tests.{eq-eqb, ne_eqb}
use Rattle.std.specs.Prelude.{Result, Ok, Err}
use Rattle.number.specs.Number.{splice, pattern}
use Rattle.aggregates.specs.declared.MeanReport.{MeanReport}
use Rattle.aggregates.specs.declared.RatioReport.{RatioReport}
use Rattle.lafkuno.specs.Sums.{flag_of, mean_words, ratio_words, mean_ground, mean_numbers, ratio_ground, ratio_numbers}
use Rattle.lafkuno.proofs.Laws.{splice_whole}

module _ (a : Result MeanReport ℕ) (answer : List ℕ) where
  pub mean_short : (length answer ≡ 5 → ⊥) → (r : MeanReport) → a ≡ Ok r → (14 ≡ mean_ground a answer) × (answer ≡ mean_numbers a answer)
  unfolding mean_ground mean_numbers
  mean_short h r e = rw e (rw (ne_eqb (length answer) 5 h), rw (ne_eqb (length answer) 5 h))

  pub mean_refused : (g : ℕ) → a ≡ Err g → (g ≡ mean_ground a answer) × (answer ≡ mean_numbers a answer)
  unfolding mean_ground mean_numbers
  mean_refused g e = rw e (refl, same (eqb (length answer) 5))
    where
      same : (b : Bool) → answer ≡ cond b answer answer
      same true = refl
      same false = refl

  pub mean_done : length answer ≡ 5 → (r : MeanReport) → a ≡ Ok r → (words new : List ℕ) → words ≡ mean_words r → new ≡ splice 0 words answer
      → (0 ≡ mean_ground a answer) × (new ≡ mean_numbers a answer)
  unfolding mean_ground mean_numbers
  mean_done h r e words new w s = rw e (rw (eq-eqb (length answer) 5 h), s ∙ splice_whole words answer (ap length w ∙ sym h) ∙ w ∙ rw (eq-eqb (length answer) 5 h))

module _ (a : Result RatioReport ℕ) (answer : List ℕ) where
  pub ratio_short : (length answer ≡ 6 → ⊥) → (r : RatioReport) → a ≡ Ok r → (14 ≡ ratio_ground a answer) × (answer ≡ ratio_numbers a answer)
  unfolding ratio_ground ratio_numbers
  ratio_short h r e = rw e (rw (ne_eqb (length answer) 6 h), rw (ne_eqb (length answer) 6 h))

  pub ratio_refused : (g : ℕ) → a ≡ Err g → (g ≡ ratio_ground a answer) × (answer ≡ ratio_numbers a answer)
  unfolding ratio_ground ratio_numbers
  ratio_refused g e = rw e (refl, same (eqb (length answer) 6))
    where
      same : (b : Bool) → answer ≡ cond b answer answer
      same true = refl
      same false = refl

  pub ratio_done : length answer ≡ 6 → (r : RatioReport) → a ≡ Ok r → (words new : List ℕ) → words ≡ ratio_words r → new ≡ splice 0 words answer
      → (0 ≡ ratio_ground a answer) × (new ≡ ratio_numbers a answer)
  unfolding ratio_ground ratio_numbers
  ratio_done h r e words new w s = rw e (rw (eq-eqb (length answer) 6 h), s ∙ splice_whole words answer (ap length w ∙ sym h) ∙ w ∙ rw (eq-eqb (length answer) 6 h))

-- the numbers of an answer, one by one
pub mean_list : (r : MeanReport) (a b : ℕ) → a ≡ pattern 8 r.sum → b ≡ flag_of r.minus → r.count ∷ a ∷ b ∷ r.over ∷ r.under ∷ [] ≡ mean_words r
mean_list r a b p q = rw (p, q)

pub ratio_list : (r : RatioReport) (a b d : ℕ) → a ≡ pattern 8 r.first → b ≡ pattern 8 r.second → d ≡ flag_of r.minus
    → r.count ∷ a ∷ b ∷ d ∷ r.over ∷ r.under ∷ [] ≡ ratio_words r
ratio_list r a b d p q s = rw (p, q, s)
