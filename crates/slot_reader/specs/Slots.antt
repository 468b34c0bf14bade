-- What one slot of a lent node reads as, by the node's words and kind: 01, "How a row is read". Ground 12 where the body does not hold
-- what is read, ground 10 where the words say no kind that is read here. Assumes nothing.
use Rattle.std.specs.Prelude.{Bool, cond, ◌&&◌, List, ℕ, suc, ◌+◌, ◌*◌, ◌-◌, ◌^◌, length, drop, get_or, leb, ltb, eqb}
use Rattle.std.proofs.Math.Option.{none}
use Rattle.number.specs.Number.{number}
use Rattle.columnar.specs.Types.{Number, width}
use Rattle.columnar.specs.Array.{item}
use Rattle.schema.specs.formats.Code.{last_code}
use Rattle.schema.specs.formats.Types.{number_of, number_or}
use Rattle.array_data.specs.Tables.{Tables, length_of, offset_of, place, valid_of, first_buffer, second_buffer}
use Rattle.array_data.specs.NodeKinds.{NodeKind, fixed_node, string_node, view_node, list_view_node, list_node, sparse_node, dense_node, run_end_node, dictionary_node, kind_of}
use Rattle.slot_reader.specs.leaf_row.Reading.{leaf_of}
use Rattle.slot_reader.specs.view.Place.{place_of}
use Rattle.slot_reader.specs.declared.view.Place.{Place}
use Rattle.slot_reader.specs.declared.view.Place.TheVariants as seen
use Rattle.array_data.specs.node_words.Words.{word}
use Rattle.array_data.specs.entries.Entries.{holds, spot_in, entry_in, valid_in}
use Rattle.std.specs.Prelude.{Some, None, Option}
use Rattle.array_data.specs.declared.entries.Validity.{Validity}
use Rattle.array_data.specs.declared.entries.Validity.TheVariants as validity
use Rattle.slot_reader.specs.declared.RowRead.{RowRead}
use Rattle.slot_reader.specs.declared.RowRead.TheVariants as row

-- ---- a node's kind, by its words

module _ (tree : List ℕ) where
  -- the code of node i's format; 0 where it has none
  unfoldable pub code_word : ℕ → ℕ
  code_word i = cond (leb (word tree i 0) last_code) (word tree i 0) 0

  abbrev pub known : ℕ → Bool
  known i = leb 1 (code_word i)

  -- its kind, a union's ids aside
  unfoldable pub kind_word : ℕ → NodeKind
  kind_word i = kind_of (code_word i) (eqb (word tree i 1) 0) none (code_word (suc i))

abbrev pub code_number : ℕ → Number
code_number code = number_or (number_of code)

-- ---- slots of a buffer s

-- "A leaf row is .. a whole number, an f32 or an f64"
unfoldable pub number_read : Number → List ℕ → ℕ → RowRead
number_read m s i = cond (holds (width m) s i) (row.Number (leaf_of m (item (width m) s i))) (row.Refused 12)

-- the bytes a .. b - 1 of a buffer that begins at `start`
unfoldable pub stretch_in : ℕ → List ℕ → ℕ → ℕ → RowRead
stretch_in start s a b = cond (leb a b && leb b (length s)) (row.Bytes (start + a) (b - a)) (row.Refused 12)

-- what two entries say
abbrev pub both : (ℕ → ℕ → RowRead) → Option ℕ → Option ℕ → RowRead
both f (Some a) (Some b) = f a b
both f (Some a) None = row.Refused 12
both f None e = row.Refused 12

-- from an offset to the next
abbrev pub to_next : (ℕ → ℕ → RowRead) → ℕ → List ℕ → ℕ → RowRead
to_next f w offsets i = both f (entry_in w offsets i) (entry_in w offsets (suc i))

-- a byte string
abbrev pub string_read : ℕ → List ℕ → ℕ → List ℕ → ℕ → RowRead
string_read w offsets start chars i = to_next (stretch_in start chars) w offsets i

-- of data buffer b among the n that stand in the table from number a on: where it begins (j = 0), its bytes (j = 1)
abbrev pub data_place : List ℕ → ℕ → ℕ → ℕ → ℕ → ℕ
data_place buffers a n b j = cond (ltb b n) (get_or buffers (2 * (a + b) + j) 0) 0

abbrev pub viewed : Place → RowRead
viewed (seen.Inline at len) = row.Bytes at len
viewed (seen.Data at len) = row.Bytes at len
viewed seen.Outside = row.Refused 12

-- "part of the view itself up to length 12, and above that part of the data buffer", which the view's third number names
abbrev pub view_in : List ℕ → List ℕ → ℕ → ℕ → ℕ → ℕ → RowRead
view_in body buffers a n at b = viewed (place_of body at (length body) (data_place buffers a n b 0) (data_place buffers a n b 1))

abbrev pub view_at : List ℕ → List ℕ → ℕ → ℕ → Option ℕ → RowRead
view_at body buffers a n (Some at) = view_in body buffers a n at (number 4 (drop (at + 8) body))
view_at body buffers a n None = row.Refused 12

-- a list-view: where its rows begin in the child, and how many they are
abbrev pub list_view_read : ℕ → List ℕ → List ℕ → ℕ → ℕ → RowRead
list_view_read w offsets sizes child i = both (λ a n. row.List child a n) (entry_in w offsets i) (entry_in w sizes i)

-- the rows a .. b - 1 of a child of n rows
unfoldable pub rows_in : ℕ → ℕ → ℕ → ℕ → RowRead
rows_in child n a b = cond (leb a b && leb b n) (row.List child a (b - a)) (row.Refused 12)

-- a list: "offsets follow the byte-string rule, with child rows in place of bytes"
abbrev pub list_read : ℕ → List ℕ → ℕ → ℕ → ℕ → RowRead
list_read w offsets child n i = to_next (rows_in child n) w offsets i

-- "the stored bytes of the entry": of a number's slot
unfoldable pub stored_number : ℕ → ℕ → List ℕ → ℕ → RowRead
stored_number start w s i = cond (holds w s i) (row.Bytes (start + i * w) w) (row.Refused 12)

-- dictionary values are numbers or byte strings: their first buffer s begins at a, their second t at b
abbrev pub stored_by : NodeKind → ℕ → List ℕ → ℕ → List ℕ → ℕ → RowRead
stored_by (fixed_node m) a s b t i = stored_number a (width m) s i
stored_by (string_node w) a s b t i = string_read w s b t i
stored_by view_node a s b t i = row.Refused 10
stored_by (list_view_node w) a s b t i = row.Refused 10
stored_by (list_node w) a s b t i = row.Refused 10
stored_by (sparse_node ids) a s b t i = row.Refused 10
stored_by (dense_node ids) a s b t i = row.Refused 10
stored_by (run_end_node w) a s b t i = row.Refused 10
stored_by (dictionary_node m) a s b t i = row.Refused 10

-- an entry by its own bit: null, or its stored bytes
abbrev pub entry_by : Validity → RowRead → RowRead
entry_by validity.Valid r = r
entry_by validity.Null r = row.Null
entry_by validity.Outside r = row.Refused 12

-- the entry that a key names, with the values' own offset added
abbrev pub keyed : ℕ → (ℕ → RowRead) → Option ℕ → RowRead
keyed off f (Some key) = cond (ltb (off + key) (2 ^ 64)) (f (off + key)) (row.Refused 12)
keyed off f None = row.Refused 12

-- ---- nodes

module _ (tree : List ℕ) (x : Tables) where
  -- the stored bytes of slot k of node i
  abbrev pub stored_at : ℕ → ℕ → RowRead
  stored_at i k = cond (known tree i) (stored_by (kind_word tree i) (place x i 3) (first_buffer x i) (place x i 5) (second_buffer x i) k) (row.Refused 10)

  -- slot k of node i, a dictionary's values
  abbrev pub named_at : ℕ → ℕ → RowRead
  named_at i k = entry_by (valid_in (valid_of x i) k) (stored_at i k)

  -- "null .. where the entry its key names is null; otherwise it is the stored bytes of that entry"
  abbrev pub dictionary_read : ℕ → ℕ → ℕ → RowRead
  dictionary_read i w k = keyed (offset_of x (suc i)) (named_at (suc i)) (entry_in w (first_buffer x i) k)

  -- a fixed-width format: of numbers, or of keys where the node has a dictionary
  abbrev pub fixed_read : ℕ → Number → ℕ → RowRead
  fixed_read i m k = cond (eqb (word tree i 1) 0) (number_read m (first_buffer x i) k) (dictionary_read i (width m) k)

  -- slot k of node i, by its kind; unions and run ends go on to a child
  abbrev pub slot_by : NodeKind → ℕ → ℕ → RowRead
  slot_by (fixed_node m) i k = number_read m (first_buffer x i) k
  slot_by (string_node w) i k = string_read w (first_buffer x i) (place x i 5) (second_buffer x i) k
  slot_by view_node i k = view_at x.body x.buffers (place x i 7) (place x i 8) (spot_in (place x i 3) 16 (first_buffer x i) k)
  slot_by (list_view_node w) i k = list_view_read w (first_buffer x i) (second_buffer x i) (suc i) k
  slot_by (list_node w) i k = list_read w (first_buffer x i) (suc i) (length_of x (suc i)) k
  slot_by (sparse_node ids) i k = row.Refused 10
  slot_by (dense_node ids) i k = row.Refused 10
  slot_by (run_end_node w) i k = row.Refused 10
  slot_by (dictionary_node m) i k = dictionary_read i (width m) k

  abbrev pub slot_read : ℕ → ℕ → RowRead
  slot_read i k = cond (known tree i) (slot_by (kind_word tree i) i k) (row.Refused 10)
