-- What an extension of n offsets comes to. 01, ground 6: an offset does not fit its type. Assumes nothing.
use Rattle.std.specs.Prelude.{ℕ, ◌+◌, min, cond, List, nat_lt}
use Rattle.number.specs.Number.{entry}
use Rattle.utils.specs.Offsets.{largest, moved, first_above}
use Rattle.utils.specs.declared.Extended.{Extended}
use Rattle.utils.specs.declared.Extended.TheVariants.{Fits, Over, Falls}

-- row k, with its new offset, cut to 2 ^ 64 - 1
abbrev pub row_over : ℕ → List ℕ → ℕ → ℕ → ℕ → Extended
row_over w s from last k = Over k (min (moved w s from last (k + 1)) 18446744073709551615)

-- the first row whose new offset is above the largest
unfoldable pub over_at : ℕ → List ℕ → ℕ → ℕ → ℕ → Extended
over_at w s from n last = row_over w s from last (first_above (largest w) (λ k. moved w s from last (k + 1)) n)

-- Falls where the last offset is below the first or `last` does not fit; else Fits where the last new offset does; else the first row that does not
unfoldable pub extended : ℕ → List ℕ → ℕ → ℕ → ℕ → Extended
extended w s from n last =
    cond (nat_lt (entry w s from n) (entry w s from 0)) Falls
    (cond (nat_lt (largest w) last) Falls
    (cond (nat_lt (largest w) (moved w s from last n)) (over_at w s from n last)
    (Fits (moved w s from last n) (entry w s from 0))))
