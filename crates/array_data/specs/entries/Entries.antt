-- Entries of lent buffers that may be of any length, and a column's tables from its first node on. Assumes nothing.
use Rattle.std.specs.Prelude.{Some, None, Bool, cond, ◌&&◌, ◌||◌, List, ℕ, suc, ◌+◌, ◌*◌, ◌/◌, length, leb, ltb, eqb}
use Rattle.std.proofs.Math.Option.{Option, none, some}
use Rattle.columnar.specs.Array.{item, bit}
use Rattle.array_data.specs.Tables.{Tables}
use Rattle.array_data.specs.Typed.{tables_from}
use Rattle.std.specs.declared.option.Option as answer
use Rattle.array_data.specs.declared.entries.Validity.{Validity}
use Rattle.array_data.specs.declared.entries.Validity.TheVariants as validity

-- the lent tables from the column's first node on
abbrev pub column : List ℕ → List ℕ → List ℕ → List ℕ → ℕ → Tables
column lengths places buffers body first = tables_from (record { lengths = lengths; places = places; buffers = buffers; body = body }) first

-- the buffer holds entry i of w bytes
abbrev pub holds : ℕ → List ℕ → ℕ → Bool
holds w s i = leb 1 w && leb (suc i * w) (length s)

-- where entry i stands in the body, of a buffer that begins at `start`; none where the buffer does not hold it
unfoldable pub spot_in : ℕ → ℕ → List ℕ → ℕ → answer.Option ℕ
spot_in start w s i = cond (holds w s i) (Some (start + i * w)) None

-- numbers have 1, 2, 4 or 8 bytes
abbrev pub sized : ℕ → Bool
sized w = eqb w 1 || (eqb w 2 || (eqb w 4 || eqb w 8))

-- the number in entry i; none where the buffer does not hold it
unfoldable pub entry_in : ℕ → List ℕ → ℕ → answer.Option ℕ
entry_in w s i = cond (sized w && holds w s i) (Some (item w s i)) None

-- a slot's bit, valid or not
abbrev pub valid_bit : Bool → Validity
valid_bit b = cond b validity.Valid validity.Null

-- "Arrays having a 0 null count may choose to not allocate the validity bitmap"
abbrev pub valid_in : Option (List ℕ) → ℕ → Validity
valid_in none i = validity.Valid
valid_in (some m) i = cond (ltb (i / 8) (length m)) (valid_bit (bit m i)) validity.Outside
