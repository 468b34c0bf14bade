-- The offsets of a list, whose last one is its child's rows. Assumes nothing.
use Rattle.std.specs.Prelude.{cond, List, [], ◌∷◌, ℕ, suc, ◌+◌, ◌*◌}
use Rattle.utils.specs.Offsets.{moved_offsets}
use Rattle.utils.specs.Extension.{extended}
use Rattle.utils.specs.declared.Extended.{Extended}
use Rattle.utils.specs.declared.Extended.TheVariants.{Fits, Over, Falls}
use Rattle.walk.specs.State.{Join, rows, place, rows_in}
use Rattle.walk.specs.Log.{Log, put}

module _ (x : Join) (w i slot n : ℕ) (c : List ℕ) where
  -- what the offsets of n rows come to behind the child's rows; those that do not stand in the body fall
  unfoldable pub tried_offsets : Extended
  tried_offsets = cond (rows_in x (place x i 3) w slot (suc n)) (extended w x.body (place x i 3 + w * slot) n (rows c (suc i))) Falls

  -- "all its offsets (6) before that stretch": they are written together, where all fit
  abbrev pub offsets_log : Extended → Log
  offsets_log (Fits last first) = put i 1 (suc (rows c i) * w) (moved_offsets w x.body (place x i 3 + w * slot) (rows c (suc i)) n) ∷ []
  offsets_log (Over row needed) = []
  offsets_log Falls = []
