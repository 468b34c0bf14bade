-- A view of 16 bytes: length, prefix, buffer index and offset, four bytes each. 01: its buffer index rises if its length is above 12. Assumes nothing.
use Rattle.std.specs.Prelude.{ℕ, ◌+◌, ◌*◌, ◌%◌, ◌^◌, cond, List, ◌++◌, take, drop, nat_lt}
use Rattle.number.specs.Number.{number, encode}
use Rattle.utils.specs.Pieces.{pieces}
use Rattle.utils.specs.declared.byte_view.ByteView.{ByteView}

-- the view that stands in s at `at`
abbrev pub view_at : List ℕ → ℕ → ByteView
view_at s at =
    record {
      length = number 4 (drop at s);
      prefix = number 4 (drop (at + 4) s);
      buffer_index = number 4 (drop (at + 8) s);
      offset = number 4 (drop (at + 12) s);
    }

-- the 16 bytes of a view
unfoldable pub view_bytes : ByteView → List ℕ
view_bytes v = encode 4 v.length ++ encode 4 v.prefix ++ encode 4 v.buffer_index ++ encode 4 v.offset

-- the buffer index rises by base, modulo 2 ^ 32, where the length is above 12
abbrev pub reindexed_by : ℕ → ByteView → ByteView
reindexed_by base v =
    cond (nat_lt 12 v.length)
    (record { length = v.length; prefix = v.prefix; buffer_index = (v.buffer_index + base) % 256 ^ 4; offset = v.offset })
    v

-- the 16 bytes that a view at the start of s becomes: an inline one stays, in another bytes 8 to 11, its buffer index, change
unfoldable pub reviewed_one : List ℕ → ℕ → List ℕ
reviewed_one s base =
    cond (nat_lt 12 (number 4 s))
    (take 8 s ++ encode 4 ((number 4 (drop 8 s) + base) % 256 ^ 4) ++ take 4 (drop 12 s))
    (take 16 s)

-- the first n views of those that stand in s from `from` on
unfoldable pub reviewed : List ℕ → ℕ → ℕ → ℕ → List ℕ
reviewed s from base n = pieces (λ k. reviewed_one (drop (from + 16 * k) s) base) n
