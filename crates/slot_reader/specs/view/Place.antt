-- Where the bytes of a view stand: 01, "the bytes shown are part of the view itself up to length 12, and above that part of the data buffer". Assumes nothing.
use Rattle.std.specs.Prelude.{ℕ, ◌+◌, ◌≤◌, cond, ◌&&◌, List, [], take, drop, leb}
use Rattle.number.specs.Number.{number}
use Rattle.slot_reader.specs.declared.view.Place.{Place}
use Rattle.slot_reader.specs.declared.view.Place.TheVariants.{Inline, Data, Outside}

-- of the view that stands in s at `at`: its length, and its offset in the data buffer
abbrev pub length_at : List ℕ → ℕ → ℕ
length_at s at = number 4 (drop at s)

abbrev pub offset_at : List ℕ → ℕ → ℕ
offset_at s at = number 4 (drop (at + 12) s)

-- up to length 12 the bytes stand in the view behind its length; above that in the data buffer, which is `size` bytes from `from` on of n
unfoldable pub place_of : List ℕ → ℕ → ℕ → ℕ → ℕ → Place
place_of s at n from size =
    cond (leb (length_at s at) 12)
    (Inline (at + 4) (length_at s at))
    (cond (leb (from + size) n && leb (offset_at s at + length_at s at) size)
    (Data (from + offset_at s at) (length_at s at))
    Outside)

-- the bytes at a place
abbrev pub part_of : List ℕ → List ℕ → Place → List ℕ
part_of views body (Inline at len) = take len (drop at views)
part_of views body (Data at len) = take len (drop at body)
part_of views body Outside = []

-- the place lies in its slice: m views' bytes, n data bytes
abbrev pub Within : ℕ → ℕ → Place → Type 0
Within m n (Inline at len) = at + len ≤ m
Within m n (Data at len) = at + len ≤ n
Within m n Outside = Unit {0}
