-- Worked examples of union formats, by computation. Assumes nothing.
use mathlib.Core.Path.{◌≡◌, refl}
use mathlib.Core.List.{[], ◌∷◌}
use mathlib.Core.Option.{none, some}
use Rattle.schema.specs.formats.Code.{code_of}
use Rattle.schema.specs.union_ids.Ids.{pieces, decimal, id_of, distinct, allowed, ids_of}

-- K12: +ud:5,7
pub k12 : ids_of (43 ∷ 117 ∷ 100 ∷ 58 ∷ 53 ∷ 44 ∷ 55 ∷ []) ≡ some (5 ∷ 7 ∷ [])
unfolding code_of pieces decimal id_of distinct allowed
k12 = refl

-- +us:
pub no_field : ids_of (43 ∷ 117 ∷ 115 ∷ 58 ∷ []) ≡ some []
unfolding code_of
no_field = refl

-- +us:0,127
pub ends : ids_of (43 ∷ 117 ∷ 115 ∷ 58 ∷ 48 ∷ 44 ∷ 49 ∷ 50 ∷ 55 ∷ []) ≡ some (0 ∷ 127 ∷ [])
unfolding code_of pieces decimal id_of distinct allowed
ends = refl

-- +us:128
pub too_large : ids_of (43 ∷ 117 ∷ 115 ∷ 58 ∷ 49 ∷ 50 ∷ 56 ∷ []) ≡ none
unfolding code_of pieces decimal id_of distinct allowed
too_large = refl

-- +us:1,1
pub twice : ids_of (43 ∷ 117 ∷ 115 ∷ 58 ∷ 49 ∷ 44 ∷ 49 ∷ []) ≡ none
unfolding code_of pieces decimal id_of distinct allowed
twice = refl

-- +us:1,,2
pub empty_piece : ids_of (43 ∷ 117 ∷ 115 ∷ 58 ∷ 49 ∷ 44 ∷ 44 ∷ 50 ∷ []) ≡ none
unfolding code_of pieces decimal id_of distinct allowed
empty_piece = refl

-- +vl
pub no_union : ids_of (43 ∷ 118 ∷ 108 ∷ []) ≡ none
unfolding code_of
no_union = refl
