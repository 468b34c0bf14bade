-- The lesser and the greater of two floats: 02, W11, "Comparison is that of the floats; of equal values the first met stays." Assumes nothing.
use Rattle.std.specs.Prelude.{Bool, cond, Float}
use Rattle.std.specs.Float.Ieee.{lt}

abbrev pub above : Float → Float → Bool
above a b = lt b a

-- the second only where it stands under the first
abbrev pub first_by : (Float → Float → Bool) → Float → Float → Float
first_by under a b = cond (under b a) b a

abbrev pub lesser_of : Float → Float → Float
lesser_of = first_by lt

abbrev pub greater_of : Float → Float → Float
greater_of = first_by above
