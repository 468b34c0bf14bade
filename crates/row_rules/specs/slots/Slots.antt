-- What the rows of a union, a dictionary or a view array must hold (01, "A source the opening takes"), as tests on the bytes s of the lent
-- body. Places count bytes of s and have the array's offset in them. Assumes nothing.
use Rattle.std.specs.Prelude.{ℕ, zero, suc, ◌+◌, ◌*◌, min, Bool, cond, ◌&&◌, ltb, List, [], ◌∷◌, length, take, drop, ◌==◌, nat_le, nat_lt, slice_index}
use Rattle.number.specs.Number.{number, entry}
use Rattle.bits.specs.Bits.{bits}
use Rattle.utils.specs.declared.byte_view.ByteView.{ByteView}
use Rattle.utils.specs.byte_view.View.{view_at}
use Rattle.columnar.specs.Types.{half}
use Rattle.columnar.specs.Test.{every, member, only_if}

-- ---- unions

-- "union ids declared": type ids, a byte each, at `at`
abbrev pub ids_declared : List ℕ → ℕ → List ℕ → ℕ → Bool
ids_declared s at ids n = every (λ i. member (slice_index s (at + i)) ids) n

-- the first field with the id c, or the number of fields where none has it
unfoldable pub field_of : List ℕ → ℕ → ℕ
field_of [] c = 0
field_of (d ∷ ds) c = cond (c == d) 0 (suc (field_of ds c))

-- a position of the id c: a signed number of four bytes that is not negative and below the length of the id's field
abbrev pub position_good : List ℕ → List ℕ → ℕ → ℕ → Bool
position_good ids lens c p = nat_lt p (half 4) && nat_lt p (slice_index lens (field_of ids c))

-- "dense positions within the child": type ids at `at`, positions at `too`, the length of field f at `get_or lens f 0`
abbrev pub positions_within : List ℕ → ℕ → ℕ → List ℕ → List ℕ → ℕ → Bool
positions_within s at too ids lens n = every (λ i. position_good ids lens (slice_index s (at + i)) (entry 4 s too i)) n

-- what a position of the id c must be below, so that it is not negative and its id declared: the length of the id's field, at most 2^31; 0 where
-- no field has the id
abbrev pub bound_of : List ℕ → List ℕ → ℕ → ℕ
bound_of ids lens c = cond (member c ids) (min (half 4) (slice_index lens (field_of ids c))) 0

-- ---- validity

-- whether row i is valid: its bit, where the first row's is bit a of those from the byte `from` on
abbrev pub valid_at : List ℕ → ℕ → ℕ → ℕ → Bool
valid_at s from a i = slice_index (bits s) (8 * from + (a + i)) == 1

-- ---- dictionaries

-- "a key .. lies within its dictionary": keys of w bytes at `at`
abbrev pub keys_below : ℕ → List ℕ → ℕ → ℕ → ℕ → Bool
keys_below w s at bound n = every (λ i. ltb (entry w s at i) bound) n

-- "a key whose bit is 1 lies within its dictionary; a key under a null may be anything"
abbrev pub valid_keys_below : ℕ → List ℕ → ℕ → ℕ → ℕ → ℕ → ℕ → Bool
valid_keys_below w s at bound from a n = every (λ i. only_if (valid_at s from a i) (nat_lt (entry w s at i) bound)) n

-- ---- views

-- "a range inside it, and a prefix equal to its first four bytes", of a data buffer of so many bytes at `start`, which must lie in the body
abbrev pub lies_in : List ℕ → ℕ → ℕ → ByteView → Bool
lies_in s start bytes v =
    nat_le (start + bytes) (length s) && nat_le (v.offset + v.length) bytes && v.prefix == number 4 (drop (start + v.offset) s)

-- where data buffer k starts and its bytes: two numbers of the table t, whose first buffer is `first`
abbrev pub start_at : List ℕ → ℕ → ℕ → ℕ
start_at t first k = slice_index t (2 * (first + k))

abbrev pub bytes_at : List ℕ → ℕ → ℕ → ℕ
bytes_at t first k = slice_index t (2 * (first + k) + 1)

-- "length up to 2^31-1; above 12, a known buffer, a range inside it, and a prefix equal to its first four bytes"
abbrev pub view_good : List ℕ → List ℕ → ℕ → ℕ → ByteView → Bool
view_good s t first count v =
    nat_lt v.length 2147483648
    && only_if (nat_lt 12 v.length) (nat_lt v.buffer_index count && lies_in s (start_at t first v.buffer_index) (bytes_at t first v.buffer_index) v)

-- every view of 16 bytes at `at`
abbrev pub views_good : List ℕ → ℕ → List ℕ → ℕ → ℕ → ℕ → Bool
views_good s at t first count n = every (λ i. view_good s t first count (view_at s (at + 16 * i))) n

-- "a view whose bit is 1"
abbrev pub valid_views_good : List ℕ → ℕ → List ℕ → ℕ → ℕ → ℕ → ℕ → ℕ → Bool
valid_views_good s at t first count from a n = every (λ i. only_if (valid_at s from a i) (view_good s t first count (view_at s (at + 16 * i)))) n

-- f 0, f 1, .. f (n - 1)
unfoldable pub listed : {A : Type 0} → (ℕ → A) → ℕ → List A
listed f zero = []
listed f (suc n) = f 0 ∷ listed (λ k. f (suc k)) n

-- the `count` data buffers that the table names: parts of the body
abbrev pub parts : List ℕ → List ℕ → ℕ → ℕ → List (List ℕ)
parts s t first count = listed (λ k. take (bytes_at t first k) (drop (start_at t first k) s)) count
