-- The types that 01 admits (01, "Column types and ceilings"; ground 10): widths, key formats, union ids. Assumes nothing.
use Rattle.std.specs.Prelude.{◌≡◌, ℕ, ◌<◌, T}
use mathlib.Core.List.{List, [], ◌∷◌, Memᴰ}
use Rattle.columnar.specs.Types.{Plain, fixed, string, Ty, t_plain, t_view, t_list_view, t_list, t_sparse, t_dense, t_run_end, t_dictionary}
use Rattle.columnar.specs.Wider.{integer}

-- offsets and sizes: four bytes (z u +vl +l) or eight (Z U +vL +L)
pub data OffsetWidth : ℕ → Type 0 where
  four : OffsetWidth 4
  eight : OffsetWidth 8

-- "Run ends are `s`, `i` or `l`."
pub data RunWidth : ℕ → Type 0 where
  two : RunWidth 2
  four : RunWidth 4
  eight : RunWidth 8

abbrev pub FormedPlain : Plain → Type 0
FormedPlain (fixed n) = Unit {0}
FormedPlain (string w) = OffsetWidth w

-- "distinct ids 0 to 127"
abbrev pub Ids : List ℕ → Type 0
Ids [] = Unit {0}
Ids (c ∷ cs) = (c < 128) × (Memᴰ c cs → ⊥) × Ids cs

abbrev pub Formed : Ty → Type 0
Formed (t_plain p) = FormedPlain p
Formed t_view = Unit {0}
Formed (t_list_view w t) = OffsetWidth w × Formed t
Formed (t_list w t) = OffsetWidth w × Formed t
Formed (t_sparse ids nullable f) = Ids ids × ((c : ℕ) → Memᴰ c ids → Formed (f c))
Formed (t_dense ids nullable f) = Ids ids × ((c : ℕ) → Memᴰ c ids → Formed (f c))
Formed (t_run_end w t) = RunWidth w × Formed t
Formed (t_dictionary k p) = T (integer k) × FormedPlain p
