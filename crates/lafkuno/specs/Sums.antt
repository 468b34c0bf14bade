-- What the calls over exact sums answer. Assumes nothing.
use Rattle.std.specs.Prelude.{Bool, cond, List, [], ◌∷◌, ℕ, length, eqb, Result, Ok, Err}
use Rattle.number.specs.Number.{pattern}
use Rattle.aggregates.specs.declared.MeanReport.{MeanReport}
use Rattle.aggregates.specs.declared.RatioReport.{RatioReport}

-- 1 for yes; of a fraction, for minus
abbrev pub flag_of : Bool → ℕ
flag_of b = cond b 1 0

-- sums are two's complement of 64 bits
abbrev pub mean_words : MeanReport → List ℕ
mean_words r = r.count ∷ pattern 8 r.sum ∷ flag_of r.minus ∷ r.over ∷ r.under ∷ []

abbrev pub ratio_words : RatioReport → List ℕ
ratio_words r = r.count ∷ pattern 8 r.first ∷ pattern 8 r.second ∷ flag_of r.minus ∷ r.over ∷ r.under ∷ []

abbrev pub mean_or : List ℕ → Result MeanReport ℕ → List ℕ
mean_or answer (Ok r) = mean_words r
mean_or answer (Err g) = answer

abbrev pub ratio_or : List ℕ → Result RatioReport ℕ → List ℕ
ratio_or answer (Ok r) = ratio_words r
ratio_or answer (Err g) = answer

-- the ground, and the answer after the call: 14, last, where it is not of the call's size
unfoldable pub mean_ground : Result MeanReport ℕ → List ℕ → ℕ
mean_ground (Ok r) answer = cond (eqb (length answer) 5) 0 14
mean_ground (Err g) answer = g

unfoldable pub mean_numbers : Result MeanReport ℕ → List ℕ → List ℕ
mean_numbers a answer = cond (eqb (length answer) 5) (mean_or answer a) answer

unfoldable pub ratio_ground : Result RatioReport ℕ → List ℕ → ℕ
ratio_ground (Ok r) answer = cond (eqb (length answer) 6) 0 14
ratio_ground (Err g) answer = g

unfoldable pub ratio_numbers : Result RatioReport ℕ → List ℕ → List ℕ
ratio_numbers a answer = cond (eqb (length answer) 6) (ratio_or answer a) answer
