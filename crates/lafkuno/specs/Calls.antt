-- What the calls over lent columns answer. Assumes nothing.
use Rattle.std.specs.Prelude.{Bool, not, cond, List, [], ◌∷◌, ◌++◌, ℕ, ◌+◌, ◌-◌, ◌%◌, ◌^◌, length, replicate, leb, ltb, eqb}
use Rattle.std.specs.Float.{binary32, binary64}
use Rattle.std.specs.Float.Ieee.{to_bits}
use Rattle.number.specs.Number.{splice, pattern}
use Rattle.array_data.specs.Tables.{Tables}
use Rattle.columns.specs.Grounds.{column_ground}
use Rattle.array_data.specs.node_words.Words.{planted}
use Rattle.slot_reader.specs.declared.leaf_row.Leaf.{Leaf}
use Rattle.slot_reader.specs.declared.leaf_row.Leaf.TheVariants as leaf
use Rattle.slot_reader.specs.declared.RowRead.{RowRead}
use Rattle.slot_reader.specs.declared.RowRead.TheVariants as row
use Rattle.row_reader.specs.Walk.{Walked, row_at}
use Rattle.plan.specs.declared.parts.Spot.{Spot}
use Rattle.std.specs.Prelude.{Option, Some, None}

module _ (formats schema : List ℕ) (x : Tables) (first n : ℕ) where
  -- "9, 10 and 12 for a malformed column before any ground of its own"; then 14 where the room does not hold a tree's 256 words
  unfoldable pub open_ground : List ℕ → ℕ
  open_ground room = cond (eqb (column_ground formats schema x first n) 0) (cond (leb 256 (length room)) 0 14) (column_ground formats schema x first n)

  -- the tree of an accepted column at the front of the room, which is otherwise left as it was
  unfoldable pub open_tree : List ℕ → List ℕ
  open_tree room = cond (eqb (open_ground room) 0) (splice 0 (planted formats schema first n) room) room

-- 01: "A leaf row is null, a whole number, an f32 or an f64"; whole numbers are told apart by their type
abbrev pub leaf_kind : Leaf → ℕ
leaf_kind leaf.Null = 0
leaf_kind (leaf.Signed z) = 1
leaf_kind (leaf.Unsigned n) = 2
leaf_kind (leaf.Single x) = 3
leaf_kind (leaf.Double x) = 4
leaf_kind (leaf.SingleNan b) = 3
leaf_kind (leaf.DoubleNan b) = 4

-- a whole number as two's complement of 64 bits; a float by its bits
abbrev pub leaf_number : Leaf → ℕ
leaf_number leaf.Null = 0
leaf_number (leaf.Signed z) = pattern 8 z
leaf_number (leaf.Unsigned n) = n
leaf_number (leaf.Single x) = to_bits binary32 x
leaf_number (leaf.Double x) = to_bits binary64 x
leaf_number (leaf.SingleNan b) = b
leaf_number (leaf.DoubleNan b) = b

-- the kind of what a row reads as: a leaf's, 5 bytes, 6 a list; where it is refused, 16 and the ground
abbrev pub row_kind : RowRead → ℕ
row_kind row.Null = 0
row_kind (row.Number l) = leaf_kind l
row_kind (row.Bytes at len) = 5
row_kind (row.List i a n) = 6
row_kind (row.Refused g) = 16 + g % 64

-- its three numbers: the number; where the bytes begin in the body and how many; the list's child node, its first row and how many
abbrev pub row_numbers : RowRead → List ℕ
row_numbers row.Null = 0 ∷ 0 ∷ 0 ∷ []
row_numbers (row.Number l) = leaf_number l ∷ 0 ∷ 0 ∷ []
row_numbers (row.Bytes at len) = at ∷ len ∷ 0 ∷ []
row_numbers (row.List i a n) = i ∷ a ∷ n ∷ []
row_numbers (row.Refused g) = 0 ∷ 0 ∷ 0 ∷ []

-- all twelve: then how many unions are on the way to the row, and eight ids, of which those are the first and the rest 0
abbrev pub walked_numbers : Walked → List ℕ
walked_numbers w = row_numbers w.read ++ (length w.ids ∷ splice 0 w.ids (replicate 8 0))

-- row r of an opened column: its own ground first, then 14 where the answer has not twelve numbers. A refusal leaves the answer as it was.
module _ (tree : List ℕ) (x : Tables) (r : ℕ) (answer : List ℕ) where
  unfoldable pub read_kind : ℕ
  read_kind =
      cond (ltb (row_kind (row_at tree x r).read) 16) (cond (eqb (length answer) 12) (row_kind (row_at tree x r).read) (16 + 14)) (row_kind (row_at tree x r).read)

  unfoldable pub read_numbers : List ℕ
  read_numbers = cond (ltb read_kind 16) (walked_numbers (row_at tree x r)) answer

-- 01: "A node keeps nulls if the caller says so": by a number that is not 0
abbrev pub keeps : ℕ → Bool
keeps k = not (eqb k 0)

-- the choice of one run for a gap, by which a null order may lengthen the last run: by a number that is not 0
abbrev pub grows : ℕ → Bool
grows k = not (eqb k 0)

-- the node of a part, and its buffer; the largest number of 64 bits where there is none
abbrev pub spot_node : Option Spot → ℕ
spot_node (Some s) = s.node
spot_node None = 2 ^ 64 - 1

abbrev pub spot_buffer : Option Spot → ℕ
spot_buffer (Some s) = s.buffer
spot_buffer None = 2 ^ 64 - 1
