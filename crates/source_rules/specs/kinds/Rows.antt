-- Lent slices as tables with data buffers, and the rows of a node as tests of the body itself, where its buffers lie in it: what the rules
-- of `array_data` come to, with the offset in slots and every place in bytes of the body. Assumes nothing.
use Rattle.std.specs.Prelude.{◌≡◌, Bool, true, cond, ◌&&◌, ℕ, ◌+◌, ◌*◌, get_or, leb, eqb}
use mathlib.Core.List.{List, Memᴰ}
use Rattle.columnar.specs.Test.{each}
use Rattle.row_rules.specs.slots.Slots.{views_good, valid_views_good, keys_below, valid_keys_below, ids_declared, positions_within}
use Rattle.array_data.specs.Tables.{Tables, length_of, offset_of, place}
use Rattle.array_data.specs.Rules.{one_in}
use Rattle.array_data.specs.Typed.{field_of}
use Rattle.array_data.specs.lent_tables.Lent.{Counted, mask_of}

-- the tables with the data buffers of views
abbrev pub tables_of : List ℕ → List ℕ → List ℕ → List ℕ → Tables
tables_of lengths places buffers body = record { lengths = lengths; places = places; buffers = buffers; body = body }

-- node k has its first buffer in the body, and a bit for each slot where it has validity
pub record Ready (x : Tables) (k : ℕ) : Type 0 where
  pub counted : Counted x k
  pub inside : one_in x k ≡ true
  pub masked : mask_of x k true ≡ true

-- lens are the lengths of the children that `node` names by id, at their fields
abbrev pub Children : Tables → (ids lens : List ℕ) → (ℕ → ℕ) → Type 0
Children x ids lens node = (c : ℕ) → Memᴰ c ids → length_of x (node c) ≡ get_or lens (field_of ids c) 0

-- "sparse children at least offset + length long": `count` slots, and the length of each id's child at its field
unfoldable pub reach : List ℕ → List ℕ → ℕ → Bool
reach ids lens count = each (λ c. leb count (get_or lens (field_of ids c) 0)) ids

module _ (x : Tables) (k : ℕ) where
  -- the tests of node k's entries of w bytes, null rows left out: `all` where it has no validity, else `valid`
  abbrev pub entry_rows : ℕ → Bool → Bool → Bool
  entry_rows w all valid = leb ((offset_of x k + length_of x k) * w) (place x k 4) && cond (eqb (place x k 0) 0) all valid

  -- "a view whose bit is 1", over the node's data buffers
  unfoldable pub view_rows : Bool
  view_rows =
      entry_rows 16
      (views_good x.body (place x k 3 + 16 * offset_of x k) x.buffers (place x k 7) (place x k 8) (length_of x k))
      (valid_views_good x.body (place x k 3 + 16 * offset_of x k) x.buffers (place x k 7) (place x k 8) (place x k 1) (offset_of x k) (length_of x k))

  -- "a key whose bit is 1", of w bytes, below bound
  unfoldable pub key_rows : ℕ → ℕ → Bool
  key_rows w bound =
      entry_rows w
      (keys_below w x.body (place x k 3 + w * offset_of x k) bound (length_of x k))
      (valid_keys_below w x.body (place x k 3 + w * offset_of x k) bound (place x k 1) (offset_of x k) (length_of x k))

  -- "union ids declared", and the children's lengths
  unfoldable pub sparse_rows : List ℕ → List ℕ → Bool
  sparse_rows ids lens =
      leb (offset_of x k + length_of x k) (place x k 4)
      && ids_declared x.body (place x k 3 + offset_of x k) ids (length_of x k)
      && reach ids lens (offset_of x k + length_of x k)

  -- "dense positions within the child"
  unfoldable pub dense_rows : List ℕ → List ℕ → Bool
  dense_rows ids lens =
      leb (offset_of x k + length_of x k) (place x k 4)
      && leb ((offset_of x k + length_of x k) * 4) (place x k 6)
      && ids_declared x.body (place x k 3 + offset_of x k) ids (length_of x k)
      && positions_within x.body (place x k 3 + offset_of x k) (place x k 5 + 4 * offset_of x k) ids lens (length_of x k)
