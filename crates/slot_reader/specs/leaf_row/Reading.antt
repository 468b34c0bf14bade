-- What a leaf reads as: 01, "A leaf row is null, a whole number, an f32 or an f64; floats are equal when their bits are". Assumes nothing.
use Rattle.std.specs.Prelude.{ℕ, ◌-◌, cond, List, [], ◌∷◌, get_or, ℤ, pos, negsuc}
use Rattle.std.specs.Float.{binary32, binary64}
use Rattle.std.specs.Float.Ieee.{nan_bits, of_bits, to_bits}
use Rattle.number.specs.Number.{signed}
use Rattle.columnar.specs.Types.{Number, int, uint, w1, w2, w4, w8, f32, f64}
use Rattle.columnar.specs.Row.{Row, null, whole, single, double, bytes, list, union}
use Rattle.slot_reader.specs.declared.leaf_row.Leaf.{Leaf}
use Rattle.slot_reader.specs.declared.leaf_row.Leaf.TheVariants.{Null, Signed, Unsigned, Single, Double, SingleNan, DoubleNan}
use Rattle.slot_reader.specs.declared.leaf_row.Key.{Key}

-- the formats c C s S i I l L f g
abbrev pub formats : List Number
formats = (int w1) ∷ (uint w1) ∷ (int w2) ∷ (uint w2) ∷ (int w4) ∷ (uint w4) ∷ (int w8) ∷ (uint w8) ∷ f32 ∷ f64 ∷ []

-- they are numbered from 1 on
abbrev pub number_of : ℕ → Number
number_of code = get_or formats (code - 1) (int w1)

-- the row of each case
abbrev pub leaf_row_of : Leaf → Row
leaf_row_of Null = null
leaf_row_of (Signed z) = whole z
leaf_row_of (Unsigned n) = whole (pos n)
leaf_row_of (Single x) = single (to_bits binary32 x)
leaf_row_of (Double x) = double (to_bits binary64 x)
leaf_row_of (SingleNan b) = single b
leaf_row_of (DoubleNan b) = double b

-- a float by its bits; a NaN stays bits
unfoldable pub single_of : ℕ → Leaf
single_of b = cond (nan_bits binary32 b) (SingleNan b) (Single (of_bits binary32 b))

unfoldable pub double_of : ℕ → Leaf
double_of b = cond (nan_bits binary64 b) (DoubleNan b) (Double (of_bits binary64 b))

-- the case that the bits of a number are read as
abbrev pub leaf_of : Number → ℕ → Leaf
leaf_of (int w1) p = Signed (signed 1 p)
leaf_of (uint w1) p = Unsigned p
leaf_of (int w2) p = Signed (signed 2 p)
leaf_of (uint w2) p = Unsigned p
leaf_of (int w4) p = Signed (signed 4 p)
leaf_of (uint w4) p = Unsigned p
leaf_of (int w8) p = Signed (signed 8 p)
leaf_of (uint w8) p = Unsigned p
leaf_of f32 p = single_of p
leaf_of f64 p = double_of p

-- a kind and a number that tell a leaf's row from every other; 5: no leaf's row
abbrev pub key_as : ℕ → ℕ → Key
key_as kind bits = record { kind = kind; bits = bits }

abbrev pub key_of_whole : ℤ → Key
key_of_whole (pos n) = key_as 1 n
key_of_whole (negsuc n) = key_as 2 n

abbrev pub key_of : Row → Key
key_of null = key_as 0 0
key_of (whole z) = key_of_whole z
key_of (single b) = key_as 3 b
key_of (double b) = key_as 4 b
key_of (bytes s) = key_as 5 0
key_of (list rs) = key_as 5 0
key_of (union i r) = key_as 5 0
