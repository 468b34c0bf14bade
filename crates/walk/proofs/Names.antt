-- Short names for what the walk's definitions write out. Assumes nothing.
use mathlib.Core.List.{List}
use Prim.Native.Nat.{ℕ}
use Rattle.utils.specs.declared.Extended.{Extended}
use Rattle.walk.specs.State.{Join}
use Rattle.walk.specs.Log.{Out}
use Rattle.walk.specs.Leaves.{offered}
use Rattle.walk.specs.Copy.{Walk, each_field, put_stretch}
use Rattle.walk.specs.Nulls.{NullWalk}

-- the stretch of a list that the offsets of n rows come to
abbrev pub put_list : Join → Walk → ℕ → ℕ → ℕ → ℕ → Extended → List ℕ → Out
put_list x child w i from n e c = offered e (put_stretch x child w i from n) c

-- n rows of each field of a union, from slot `slot` on
abbrev pub copy_fields : Join → Walk → ℕ → ℕ → ℕ → ℕ → ℕ → List ℕ → Out
copy_fields x child slot n end f k c = each_field x.plan (λ j d. child j slot n d) end f k c

-- n nulls in each field of a union
abbrev pub null_fields : Join → NullWalk → ℕ → ℕ → ℕ → ℕ → List ℕ → Out
null_fields x child n end f k c = each_field x.plan (λ j d. child j n d) end f k c
