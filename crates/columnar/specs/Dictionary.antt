-- Dictionary encoding: a key for each row into an array of values. Assumes nothing.
use Rattle.std.specs.Prelude.{Bool, List, ℕ, ◌+◌, ◌*◌, ◌≤◌, ◌<◌, length, T}
use Rattle.columnar.specs.Row.{Row, bytes}
use Rattle.columnar.specs.Types.{Number, width, limit, Plain}
use Rattle.columnar.specs.Array.{Array, item, read_with}
use Rattle.columnar.specs.Plain.{PlainBody, stored}

-- starts: where the values' validity and buffers begin in the lent body; two dictionaries may be the same one (`ptr_eq`)
pub record Dictionary (P : Type 0) : Type 0 where
  pub keys : List ℕ
  pub values : Array P
  pub starts : List ℕ

-- what an entry shows where it is not null: its stored bytes
abbrev pub entry_at : (p : Plain) → PlainBody p → ℕ → Row
entry_at p b i = bytes (stored p b i)

-- "A dictionary row is null where its key's bit is 0 or where the entry its key names is null; otherwise it is the stored bytes of
-- that entry." The key's bit is `readWith`'s of the keys, the entry's that of the values.
abbrev pub dictionary_at : (k : Number) (p : Plain) → Dictionary (PlainBody p) → ℕ → Row
dictionary_at k p b i = read_with (entry_at p) b.values (item (width k) b.keys i)

-- "a key whose bit is 1 lies within its dictionary; a key under a null may be anything". A signed key within it is not negative.
pub record DictionaryRule (k : Number) {P : Type 0} (kid : Array P → Type 0) (ok : ℕ → Bool) (b : Dictionary P) (off len : ℕ) : Type 0 where
  pub hold : (off + len) * width k ≤ length b.keys
  pub positive : (i : ℕ) → i < len → T (ok (off + i)) → item (width k) b.keys (off + i) < limit k
  pub within : (i : ℕ) → i < len → T (ok (off + i)) → item (width k) b.keys (off + i) < b.values.len
  pub child_rule : kid b.values
