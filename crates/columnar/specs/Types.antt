-- Column types (01, "Column types and ceilings"; the formats are those of the Arrow C Data Interface). Assumes nothing.
use Rattle.std.specs.Prelude.{Bool, ◌&&◌, List, ℕ, ◌+◌, ◌-◌, ◌/◌, ◌^◌, ltb}

-- 1, 2, 4 or 8 bytes
pub data Size : Type 0 where
  w1 : Size
  w2 : Size
  w4 : Size
  w8 : Size

abbrev pub size : Size → ℕ
size w1 = 1
size w2 = 2
size w4 = 4
size w8 = 8

-- whole numbers with a sign (c s i l) and without (C S I L), and floats (f g)
pub data Number : Type 0 where
  int : Size → Number
  uint : Size → Number
  f32 : Number
  f64 : Number

-- its bytes
abbrev pub width : Number → ℕ
width (int s) = size s
width (uint s) = size s
width f32 = 4
width f64 = 8

-- offsets, sizes and run ends are signed: one of w bytes is below this where it is not negative
abbrev pub half : ℕ → ℕ
half w = 256 ^ w / 2

-- one more than the largest key of a format, signed or not
abbrev pub limit : Number → ℕ
limit (int s) = half (size s)
limit (uint s) = 256 ^ size s
limit f32 = 0
limit f64 = 0

-- ground 8: entries that are numbered from `start` on, n of them, fit keys of k: "(start + entries - 1, at least 0) or start does not fit the key"
abbrev pub key_fits : Number → ℕ → ℕ → Bool
key_fits k start n = ltb (start + n - 1) (limit k) && ltb start (limit k)

-- fixed-width numbers; byte strings with offsets of w bytes (4: z u; 8: Z U)
pub data Plain : Type 0 where
  fixed : Number → Plain
  string : ℕ → Plain

-- A union has its ids in field order and, by id, which field is nullable and the field's type.
pub data Ty : Type 0 where
  t_plain : Plain → Ty
  t_view : Ty  -- vz vu
  t_list_view : ℕ → Ty → Ty  -- +vl +vL, by the bytes of an offset
  t_list : ℕ → Ty → Ty  -- +l +L, by the bytes of an offset
  t_sparse : List ℕ → (ℕ → Bool) → (ℕ → Ty) → Ty  -- +us:
  t_dense : List ℕ → (ℕ → Bool) → (ℕ → Ty) → Ty  -- +ud:
  t_run_end : ℕ → Ty → Ty  -- +r, by the bytes of a run end
  t_dictionary : Number → Plain → Ty  -- an integer key format with a dictionary
