-- The plan and the counters of a join as numbers, and what an order reads beside it. Assumes nothing.
use Rattle.std.specs.Prelude.{Bool, cond, List, ℕ, ◌+◌, ◌*◌, ◌%◌, min, length, get_or, set, leb, ltb, eqb}
use Rattle.schema.specs.formats.Code.{width_of}

-- ---- the plan: 8 words a node for 32 nodes (crate `array_data::node_words`), 3 counters a node, and a base for each of 16 sources and 32 nodes

abbrev pub word : List ℕ → ℕ → ℕ → ℕ
word plan i j = get_or plan (8 * i + j) 0

-- the code of node i's format
abbrev pub code_of : List ℕ → ℕ → ℕ
code_of plan i = word plan i 0 % 256

-- 0 where node i has no dictionary
abbrev pub dictionary_of : List ℕ → ℕ → ℕ
dictionary_of plan i = word plan i 1

-- where node i's subtree ends, at most 32
abbrev pub end_of : List ℕ → ℕ → ℕ
end_of plan i = min (word plan i 2) 32

-- the id that node i has as the child of a union
abbrev pub id_of : List ℕ → ℕ → ℕ
id_of plan i = word plan i 3 % 256

-- 1 where node i is nullable
abbrev pub nullable_of : List ℕ → ℕ → ℕ
nullable_of plan i = word plan i 4

-- 0 where node i keeps no nulls
abbrev pub keeps_of : List ℕ → ℕ → ℕ
keeps_of plan i = word plan i 5

-- the part of node i's first buffer: its validity, if it has a part, is the one before, its second buffer the one behind
abbrev pub part_of : List ℕ → ℕ → ℕ
part_of plan i = word plan i 6 % 4294967296

-- the bytes of an entry of node i
abbrev pub bytes_of : List ℕ → ℕ → ℕ
bytes_of plan i = width_of (code_of plan i)

-- what is added to source s's keys or buffer numbers at node i
abbrev pub base_of : List ℕ → ℕ → ℕ → ℕ
base_of plan s i = get_or plan (352 + (32 * s + i)) 0

-- ---- the counters of a node: its rows, its nulls, and the bytes of a byte string's data

abbrev pub rows : List ℕ → ℕ → ℕ
rows c i = get_or c (3 * i) 0

abbrev pub nulls : List ℕ → ℕ → ℕ
nulls c i = get_or c (3 * i + 1) 0

abbrev pub bytes : List ℕ → ℕ → ℕ
bytes c i = get_or c (3 * i + 2) 0

-- the third of a run-end node: 0 where each null order adds a run; 1 where it lengthens a last run that null orders alone wrote; 2: and that run is one
abbrev pub gap : List ℕ → ℕ → ℕ
gap c i = bytes c i

-- the largest number of 64 bits
abbrev pub top : ℕ
top = 18446744073709551615

-- a counter n higher; it stays at the largest number, which no part holds
unfoldable pub grown : ℕ → ℕ → ℕ
grown v n = min (v + n) top

abbrev pub add_rows : ℕ → ℕ → List ℕ → List ℕ
add_rows i n c = set c (3 * i) (grown (rows c i) n)

abbrev pub add_nulls : ℕ → ℕ → List ℕ → List ℕ
add_nulls i n c = set c (3 * i + 1) (grown (nulls c i) n)

abbrev pub set_bytes : ℕ → ℕ → List ℕ → List ℕ
set_bytes i n c = set c (3 * i + 2) n

-- a copy wrote the last run
abbrev pub end_gap : ℕ → List ℕ → List ℕ
end_gap i c = set_bytes i (min (gap c i) 1) c

-- a null order wrote the last run
abbrev pub begin_gap : ℕ → List ℕ → List ℕ
begin_gap i c = set_bytes i (cond (eqb (gap c i) 0) 0 2) c

-- the bytes of r entries of w bytes; it stays at the largest number, which no part holds
unfoldable pub scaled : ℕ → ℕ → ℕ
scaled r w = min (r * w) top

-- one past the largest slot
abbrev pub far : ℕ
far = 9223372036854775808

-- ---- what an order is carried out with: the plan, the parts, and a source's tables from its first node on

pub record Join : Type 0 where
  pub plan : List ℕ
  pub parts : List ℕ
  pub lengths : List ℕ
  pub places : List ℕ
  pub body : List ℕ
  pub first : ℕ
  pub source : ℕ

module _ (x : Join) where
  -- number j of the nine places of node i
  abbrev pub place : ℕ → ℕ → ℕ
  place i j = get_or x.places (9 * (x.first + i) + j) 0

  abbrev pub length_of : ℕ → ℕ
  length_of i = get_or x.lengths (2 * (x.first + i)) 0

  abbrev pub offset_of : ℕ → ℕ
  offset_of i = get_or x.lengths (2 * (x.first + i) + 1) 0

  -- the first slot of the rows a .. a + n - 1: the one place where an array's offset is added
  unfoldable pub slot_of : ℕ → ℕ → ℕ → ℕ
  slot_of i a n = cond (ltb (offset_of i + a + n) far) (offset_of i + a) far

  -- the entries of w bytes of the slots slot .. slot + n - 1 stand in the body from `at` on
  unfoldable pub rows_in : ℕ → ℕ → ℕ → ℕ → Bool
  rows_in at w slot n = leb (at + w * (slot + n)) (length x.body)
