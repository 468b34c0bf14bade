-- 01's sentences once more, in other words than the definitions that the contracts cite: what the parts of a room are when 14 does not stand, and
-- when two dictionaries are one. proofs/Said.antt has that both say the same. Assumes nothing.
use Rattle.std.specs.Prelude.{◌≡◌, List, ℕ, ◌+◌, ◌*◌, ◌≤◌, ◌<◌, length}
use Rattle.columnar.specs.Types.{Plain, fixed, string}
use Rattle.columnar.specs.Array.{null_count_of}
use Rattle.array_data.specs.Tables.{Tables, length_of, offset_of, place, array_with}
use Rattle.plan.specs.parts.Parts.{start_at, size_at, Apart}
use Rattle.refinement.specs.opening.PartsDue.{parts_due}
use Rattle.join.specs.Join.{Lending, sources_in, type_in, columns_in}

-- ---- "14 wrong number of parts, a part outside the room, or two nonempty parts overlapping": none of these. What is lent for plan and
-- counters has their lengths.

abbrev pub parts_in : Lending → ℕ
parts_in l = parts_due (sources_in l) (type_in l) l.keep (columns_in l)

pub record PartsLie (l : Lending) : Type 0 where
  pub plan_long : length l.plan ≡ 872
  pub counters_long : length l.counters ≡ 96
  pub as_many : length l.parts ≡ 2 * parts_in l  -- where each starts, and its bytes
  pub inside : (p : ℕ) → p < parts_in l → start_at l.parts p + size_at l.parts p ≤ length l.room
  pub apart : (p q : ℕ) → p < parts_in l → q < parts_in l → (p ≡ q → ⊥)
      → Apart (start_at l.parts p) (size_at l.parts p) (start_at l.parts q) (size_at l.parts q)

-- ---- "Two dictionaries are shared if `ptr_eq` holds: same offset, length, type and start positions, validity likewise", of the values at
-- node i of two sources' tables, which are of one type

-- the nulls among the rows of node i
abbrev pub nulls_at : Tables → ℕ → ℕ
nulls_at x i = null_count_of {B = Unit {0}} (array_with x tt i)

-- "Validity with no zero bit among the rows counts as absent": neither has one, or both begin at one place
pub data SameMask (x y : Tables) (i : ℕ) : Type 0 where
  no_null : nulls_at x i ≡ 0 → nulls_at y i ≡ 0 → SameMask x y i
  one_place : (nulls_at x i ≡ 0 → ⊥) → (nulls_at y i ≡ 0 → ⊥) → place x i 1 ≡ place y i 1 → SameMask x y i

-- numbers have one buffer; byte strings offsets and bytes
abbrev pub SameBuffers : Plain → Tables → Tables → ℕ → Type 0
SameBuffers (fixed n) x y i = place x i 3 ≡ place y i 3
SameBuffers (string w) x y i = (place x i 3 ≡ place y i 3) × (place x i 5 ≡ place y i 5)

pub record OneDictionary (p : Plain) (x y : Tables) (i : ℕ) : Type 0 where
  pub same_offset : offset_of x i ≡ offset_of y i
  pub same_length : length_of x i ≡ length_of y i
  pub same_mask : SameMask x y i
  pub same_buffers : SameBuffers p x y i
