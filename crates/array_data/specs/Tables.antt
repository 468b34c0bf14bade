-- The lent tables (docs/FORMAT.md), and what a node of them stands for. Assumes nothing.
use Rattle.std.specs.Prelude.{Bool, true, cond, ◌&&◌, List, ℕ, suc, ◌+◌, ◌*◌, length, take, drop, get_or, leb, eqb}
use Rattle.std.proofs.Math.Option.{Option, none, some}
use Rattle.columnar.specs.Row.{seg}
use Rattle.columnar.specs.Array.{Array}

pub record Tables : Type 0 where
  pub lengths : List ℕ
  pub places : List ℕ
  pub buffers : List ℕ
  pub body : List ℕ

-- the bytes from a position on
abbrev pub part : List ℕ → ℕ → ℕ → List ℕ
part body at size = take size (drop at body)

-- ---- node k
module _ (x : Tables) where
  abbrev pub length_of : ℕ → ℕ
  length_of k = get_or x.lengths (2 * k) 0

  abbrev pub offset_of : ℕ → ℕ
  offset_of k = get_or x.lengths (2 * k + 1) 0

  -- number j of its nine places
  abbrev pub place : ℕ → ℕ → ℕ
  place k j = get_or x.places (9 * k + j) 0

  abbrev pub valid_of : ℕ → Option (List ℕ)
  valid_of k = cond (eqb (place k 0) 0) none (some (part x.body (place k 1) (place k 2)))

  abbrev pub first_buffer : ℕ → List ℕ
  first_buffer k = part x.body (place k 3) (place k 4)

  abbrev pub second_buffer : ℕ → List ℕ
  second_buffer k = part x.body (place k 5) (place k 6)

  -- data buffer number b of the table
  abbrev pub data_buffer : ℕ → List ℕ
  data_buffer b = part x.body (get_or x.buffers (2 * b) 0) (get_or x.buffers (2 * b + 1) 0)

  abbrev pub data_buffers : ℕ → List (List ℕ)
  data_buffers k = seg data_buffer (place k 7) (place k 8)

  -- an array with this body
  abbrev pub array_with : {B : Type 0} → B → ℕ → Array B
  array_with b k = record { len = length_of k; off = offset_of k; valid = valid_of k; body = b }

  -- ---- what must lie in the lent memory before anything is read

  -- the tables have this node
  abbrev pub held : ℕ → Bool
  held k = leb (2 * suc k) (length x.lengths) && leb (9 * suc k) (length x.places)

  -- a range of the body
  abbrev pub in_body : ℕ → ℕ → Bool
  in_body at size = leb (at + size) (length x.body)

  abbrev pub valid_in : ℕ → Bool
  valid_in k = cond (eqb (place k 0) 0) true (in_body (place k 1) (place k 2))
