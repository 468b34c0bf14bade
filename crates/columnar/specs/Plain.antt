-- Fixed-width numbers and byte strings. Assumes nothing.
use Rattle.std.specs.Prelude.{◌≡◌, Bool, List, [], ℕ, zero, suc, ◌+◌, ◌-◌, ◌*◌, ◌≤◌, ◌<◌, length, take, drop, pos}
use Rattle.number.specs.Number.{signed}
use Rattle.columnar.specs.Row.{Row, whole, single, double, bytes}
use Rattle.columnar.specs.Types.{size, Number, int, uint, f32, f64, width, half, Plain, fixed, string}
use Rattle.columnar.specs.Array.{item}

-- "a byte string: an offsets buffer of length + 1 numbers and a data buffer"
pub record Text : Type 0 where
  pub offsets : List ℕ
  pub chars : List ℕ

abbrev pub PlainBody : Plain → Type 0
PlainBody (fixed n) = List ℕ
PlainBody (string w) = Text

-- what the bits of a number read as
abbrev pub value : Number → ℕ → Row
value (int s) p = whole (signed (size s) p)
value (uint s) p = whole (pos p)
value f32 p = single p
value f64 p = double p

-- "slot_position = offsets[j]; slot_length = offsets[j + 1] - offsets[j]"
abbrev pub span : ℕ → Text → ℕ → List ℕ
span w b i = take (item w b.offsets (suc i) - item w b.offsets i) (drop (item w b.offsets i) b.chars)

abbrev pub plain_at : (p : Plain) → PlainBody p → ℕ → Row
plain_at (fixed n) b i = value n (item (width n) b i)
plain_at (string w) b i = bytes (span w b i)

-- the stored bytes of slot i, as a dictionary's row shows them
abbrev pub stored : (p : Plain) → PlainBody p → ℕ → List ℕ
stored (fixed n) b i = take (width n) (drop (i * width n) b)
stored (string w) b i = span w b i

-- "byte-string offsets: first not negative, never falling, last within the data", which has `most` bytes; for a list (02, W4) "child rows
-- in place of bytes". With signed offsets, never falling from one that is not negative means that none is negative.
pub record OffsetsTo (w : ℕ) (s : List ℕ) (most off len : ℕ) : Type 0 where
  pub hold : (off + len + 1) * w ≤ length s
  pub positive : (i : ℕ) → i ≤ len → item w s (off + i) < half w
  pub rises : (i : ℕ) → i < len → item w s (off + i) ≤ item w s (off + i + 1)
  pub within : item w s (off + len) ≤ most

-- "a byte string of length 0 may have an empty offsets buffer"
pub data OffsetsRule (w : ℕ) (s : List ℕ) (most off len : ℕ) : Type 0 where
  empty : len ≡ 0 → s ≡ [] → OffsetsRule w s most off len
  full : OffsetsTo w s most off len → OffsetsRule w s most off len

abbrev pub Offsets : ℕ → Text → ℕ → ℕ → Type 0
Offsets w b off len = OffsetsTo w b.offsets (length b.chars) off len

abbrev pub StringRule : ℕ → Text → ℕ → ℕ → Type 0
StringRule w b off len = OffsetsRule w b.offsets (length b.chars) off len

-- "every buffer .. with an entry per row hold[s] offset + length"
abbrev pub PlainRule : (p : Plain) → (ℕ → Bool) → PlainBody p → ℕ → ℕ → Type 0
PlainRule (fixed n) ok b off len = (off + len) * width n ≤ length b
PlainRule (string w) ok b off len = StringRule w b off len
