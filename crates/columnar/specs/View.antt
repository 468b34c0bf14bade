-- Byte views: 16 bytes a row. Assumes nothing.
use Rattle.std.specs.Prelude.{◌≡◌, Bool, cond, List, [], ℕ, ◌+◌, ◌*◌, ◌≤◌, ◌<◌, length, take, drop, get_or, T, leb}
use Rattle.number.specs.Number.{number}
use Rattle.columnar.specs.Row.{Row, bytes}

-- the views, and the data buffers that long ones name: they may stand in another body than the views
pub record Views : Type 0 where
  pub views : List ℕ
  pub buffers : List (List ℕ)

-- row i's 16 bytes: four numbers of four bytes, the length, the prefix, the buffer's number and the offset in it
abbrev pub view_of : List ℕ → ℕ → List ℕ
view_of s i = take 16 (drop (i * 16) s)

abbrev pub length_of : List ℕ → ℕ
length_of v = number 4 v

abbrev pub buffer_of : List ℕ → ℕ
buffer_of v = number 4 (drop 8 v)

abbrev pub offset_of : List ℕ → ℕ
offset_of v = number 4 (drop 12 v)

-- "the bytes shown are part of the view itself up to length 12, and above that part of the data buffer"
unfoldable pub shown : List (List ℕ) → List ℕ → List ℕ
shown bufs v =
    cond (leb (length_of v) 12) (take (length_of v) (drop 4 v)) (take (length_of v) (drop (offset_of v) (get_or bufs (buffer_of v) [])))

abbrev pub view_at : Views → ℕ → Row
view_at b i = bytes (shown b.buffers (view_of b.views i))

-- "above 12, a known buffer, a range inside it, and a prefix equal to its first four bytes"
pub record Lies (bufs : List (List ℕ)) (v : List ℕ) : Type 0 where
  pub known : buffer_of v < length bufs
  pub inside : offset_of v + length_of v ≤ length (get_or bufs (buffer_of v) [])
  pub prefix : take 4 (drop 4 v) ≡ take 4 (drop (offset_of v) (get_or bufs (buffer_of v) []))

-- "length up to 2^31-1"
pub record ViewGood (bufs : List (List ℕ)) (v : List ℕ) : Type 0 where
  pub small : length_of v < 2147483648
  pub long : 12 < length_of v → Lies bufs v

-- "a view whose bit is 1"
pub record ViewRule (ok : ℕ → Bool) (b : Views) (off len : ℕ) : Type 0 where
  pub hold : (off + len) * 16 ≤ length b.views
  pub good : (i : ℕ) → i < len → T (ok (off + i)) → ViewGood b.buffers (view_of b.views (off + i))
