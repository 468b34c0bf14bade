-- Unions and what they become in other widths. Assumes nothing.
use Rattle.std.specs.Prelude.{refl, Bool, true, List, [], ◌∷◌, ◌++◌, ℕ, zero, suc}
use Rattle.std.proofs.Math.Option.{none, some}
use Rattle.columnar.specs.Types.{int, w4, f32, fixed, string, Ty, t_plain, t_sparse, t_dense}
use Rattle.columnar.specs.Wider.{Declared}
use Rattle.columnar.specs.Reading.{Column}
use Rattle.columnar.specs.Examples.{array, pack, joe, mark, i_f_or_s, sparse_children, sparse_slice}
use Rattle.anew.specs.widths.Widths.{s_fixed, s_string, Widths, s_plain, s_sparse, s_dense}
use Rattle.anew.specs.widths.Converted.{column_as}
use Rattle.anew.specs.widths.Examples.{text}

abbrev pub three : List ℕ
three = 0 ∷ 1 ∷ 2 ∷ []

abbrev pub flags : ℕ → Bool
flags c = true

-- numbers, floats, and byte strings with wide offsets
abbrev pub i_f_or_wide : ℕ → Ty
i_f_or_wide zero = t_plain (fixed (int w4))
i_f_or_wide (suc zero) = t_plain (fixed f32)
i_f_or_wide (suc (suc c)) = t_plain (string 8)

abbrev pub field_widths : (c : ℕ) → Declared three c → Widths (i_f_or_s c) (i_f_or_wide c)
field_widths zero m = s_plain (fixed (int w4)) (fixed (int w4)) (s_fixed (int w4))
field_widths (suc zero) m = s_plain (fixed f32) (fixed f32) (s_fixed f32)
field_widths (suc (suc c)) m = s_plain (string 4) (string 8) (s_string 4 8)

-- the Columnar Format's sparse union, sliced, its first two children with offsets of their own
abbrev pub wide_sparse : Column (t_sparse three flags i_f_or_wide)
wide_sparse =
    column_as (t_sparse three flags i_f_or_s) (t_sparse three flags i_f_or_wide) (s_sparse three flags flags i_f_or_s i_f_or_wide (λ c m. refl) field_widths) sparse_slice.column 0 4

-- the same children under a dense union, sliced from slot 1 on: "mark", 5, 3.4
abbrev pub dense_slice : Column (t_dense three flags i_f_or_s)
dense_slice = array 3 1 none (record { ids = 0 ∷ 2 ∷ 0 ∷ 1 ∷ []; positions = pack 4 (9 ∷ 5 ∷ 0 ∷ 3 ∷ []); children = sparse_children })

abbrev pub wide_dense : Column (t_dense three flags i_f_or_wide)
wide_dense =
    column_as (t_dense three flags i_f_or_s) (t_dense three flags i_f_or_wide) (s_dense three flags flags i_f_or_s i_f_or_wide (λ c m. refl) field_widths) dense_slice 0 3

-- the byte strings under each: the rows of the slice, and all rows
abbrev pub cut_strings : Column (t_plain (string 8))
cut_strings = array 4 0 (some (0b00000010 ∷ [])) (text 8 (0 ∷ 0 ∷ 3 ∷ 3 ∷ 3 ∷ []) joe)

abbrev pub all_strings : Column (t_plain (string 8))
all_strings = array 6 0 (some (0b00100100 ∷ [])) (text 8 (0 ∷ 0 ∷ 0 ∷ 3 ∷ 3 ∷ 3 ∷ 7 ∷ []) (joe ++ mark))
