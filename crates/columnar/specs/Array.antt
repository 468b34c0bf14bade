-- Arrays: length, offset, optional validity and a body; numbers and bits in buffers. Assumes nothing.
use Rattle.std.specs.Prelude.{Bool, true, false, not, cond, List, [], ◌∷◌, ℕ, zero, suc, ◌+◌, ◌*◌, ◌/◌, ◌%◌, ◌^◌, ◌≤◌, ◌<◌, length, drop, get_or, T, eqb, ◌≡◌}
use Rattle.std.proofs.Math.Option.{Option, none, some}
use Rattle.number.specs.Number.{number}
use Rattle.columnar.specs.Row.{Row, null}

-- The rows are the slots off .. off + len - 1 of the buffers ("Arrays have an offset ..", the C Data Interface's offset).
-- A body is all that a kind has beside these: its buffers and children.
pub record Array (B : Type 0) : Type 0 where
  pub len : ℕ
  pub off : ℕ
  pub valid : Option (List ℕ)
  pub body : B

-- number i of those of w bytes in a buffer ("buffers are little-endian")
unfoldable pub item : ℕ → List ℕ → ℕ → ℕ
item w s i = number w (drop (i * w) s)

-- bit i of a validity bitmap: "is_valid[j] -> bitmap[j / 8] & (1 << (j % 8))"
unfoldable pub bit : List ℕ → ℕ → Bool
bit m i = eqb (get_or m (i / 8) 0 / 2 ^ (i % 8) % 2) 1

-- whether slot i is valid: "Arrays having a 0 null count may choose to not allocate the validity bitmap"
abbrev pub ok : Option (List ℕ) → ℕ → Bool
ok none i = true
ok (some m) i = bit m i

-- row i of an array, null where its slot is not valid, where `at` says what a slot of its body holds: the one place where an array's offset is added
abbrev pub read_with : {B : Type 0} → (B → ℕ → Row) → Array B → ℕ → Row
read_with at x i = cond (ok x.valid (x.off + i)) (at x.body (x.off + i)) null

-- a slot's row where it is valid, else null
abbrev pub sight : Bool → Row → Row
sight b r = cond b r null

-- how many of the n slots from a on are not valid
abbrev pub nulls_in : (ℕ → Bool) → ℕ → ℕ → ℕ
nulls_in f a zero = 0
nulls_in f a (suc n) = cond (f a) 0 1 + nulls_in f (suc a) n

abbrev pub null_count_of : {B : Type 0} → Array B → ℕ
null_count_of x = nulls_in (ok x.valid) x.off x.len

-- A validity bitmap of a node that may have one holds a bit for each slot up to n; a union or run-end node has none.
abbrev pub Mask : Bool → Option (List ℕ) → ℕ → Type 0
Mask b none n = Unit {0}
Mask true (some m) n = n ≤ 8 * length m
Mask false (some m) n = ⊥

-- A source's rule (01, "A source the opening takes"): that of its validity, and that of its body over its validity, offset and length.
pub record Obeys {B : Type 0} (masks : Bool) (rule : (ℕ → Bool) → B → ℕ → ℕ → Type 0) (x : Array B) : Type 0 where
  pub mask : Mask masks x.valid (x.off + x.len)
  pub slots : rule (ok x.valid) x.body x.off x.len
