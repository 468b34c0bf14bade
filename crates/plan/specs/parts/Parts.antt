-- The parts of a destination in the lent room: which there are, what each must hold, and when they lie well (01, "Column types and
-- ceilings" and grounds 13 and 14). Assumes nothing.
use Rattle.std.specs.Prelude.{Option, Some, None, ◌≡◌, Bool, true, not, cond, ◌&&◌, ◌||◌, List, [], ◌∷◌, ℕ, zero, suc, ◌+◌, ◌*◌, ◌-◌, ◌/◌, ◌≤◌, ◌<◌, min, length, get_or, leb, ltb, eqb}
use Rattle.columnar.specs.Row.{sum}
use Rattle.columnar.specs.Test.{every, only_if}
use Rattle.schema.specs.formats.Code.{is_string, is_view, is_list_view, is_list, is_union, width_of}
use Rattle.walk.specs.State.{word, code_of, dictionary_of, keeps_of, part_of, rows, bytes}
use Rattle.plan.specs.declared.parts.Spot.{Spot}

-- ---- which parts there are

-- how many nodes the type has, at most 32
abbrev pub nodes_of : List ℕ → ℕ
nodes_of plan = min (get_or plan 865 0) 32

-- "its buffers in the format's order. View data buffers .. have no part": how many have one, by code from 0 on
abbrev pub buffer_counts : List ℕ
buffer_counts =
    0 ∷ 1 ∷ 1 ∷ 1 ∷ 1 ∷ 1 ∷ 1 ∷ 1 ∷ 1 ∷ 1 ∷ 1  -- no format; c C s S i I l L f g
    ∷ 2 ∷ 2 ∷ 2 ∷ 2 ∷ 1 ∷ 1  -- z u Z U; vz vu
    ∷ 2 ∷ 2 ∷ 1 ∷ 1 ∷ 1 ∷ 2 ∷ 0 ∷ []  -- +vl +vL +l +L; +us: +ud: +r

abbrev pub buffer_count : ℕ → ℕ
buffer_count code = get_or buffer_counts code 0

-- buffer b of node i
abbrev pub spot : ℕ → ℕ → Spot
spot i b = record { node = i; buffer = b }

module _ (plan : List ℕ) where
  -- "a kept dictionary [is] not copied and ha[s] no part"; "A joined dictionary has parts": its values are the node behind its keys
  unfoldable pub copied : ℕ → Bool
  copied zero = true
  copied (suc i) = eqb (dictionary_of plan i) 0 || eqb (word plan i 7) 1

  -- "a node's validity if it keeps nulls"; "Unions and run-end nodes hold no validity and have no part for it"
  unfoldable pub validity_parts : ℕ → ℕ
  validity_parts i = cond (copied i && not (eqb (keeps_of plan i) 0) && ltb (code_of plan i) 21) 1 0

  unfoldable pub buffer_parts : ℕ → ℕ
  buffer_parts i = cond (copied i) (buffer_count (code_of plan i)) 0

  abbrev pub part_count : ℕ → ℕ
  part_count i = validity_parts i + buffer_parts i

  -- buffer b of node i has a part; buffer 0 is the validity
  unfoldable pub has_part : ℕ → ℕ → Bool
  has_part i zero = eqb (validity_parts i) 1
  has_part i (suc b) = ltb b (buffer_parts i)

  -- ---- their numbers: "Parts stand in tree order: a node's validity .., then its buffers"

  -- the parts of the nodes before node i
  unfoldable pub parts_before : ℕ → ℕ
  parts_before i = sum part_count i

  abbrev pub part_total : ℕ
  part_total = parts_before (nodes_of plan)

  -- the part of node i's first buffer, as the opening writes it into the plan
  abbrev pub part_word : ℕ → ℕ
  part_word i = parts_before i + validity_parts i

  -- the part of buffer b of node i, by the plan
  abbrev pub number_of : ℕ → ℕ → ℕ
  number_of i b = part_of plan i + b - 1

  -- the node and the buffer of part p: p is the first part of node i if it is 0 there
  unfoldable pub part_from : ℕ → ℕ → ℕ → Option Spot
  part_from zero i p = None
  part_from (suc n) i p = cond (ltb p (part_count i)) (Some (spot i (p + 1 - validity_parts i))) (part_from n (suc i) (p - part_count i))

  abbrev pub part_at : ℕ → Option Spot
  part_at p = part_from (nodes_of plan) 0 p

-- ---- what each must hold

-- byte strings and lists: one offset more than rows
abbrev pub has_offsets : ℕ → Bool
has_offsets code = is_string code || is_list code

-- the bytes of an entry of the first buffer: a view has 16, a type id 1
abbrev pub entry_size : ℕ → ℕ
entry_size code = cond (is_view code) 16 (cond (is_union code) 1 (width_of code))

-- the bytes of buffer b at a node of r rows, n its bytes of data: "new_buffers for the first zero offset", so that r rows have r + 1
-- offsets; a list-view's second buffer has its sizes, a dense union's its positions
abbrev pub needed_by : ℕ → ℕ → ℕ → ℕ → ℕ
needed_by code r n zero = (r + 7) / 8
needed_by code r n (suc zero) = cond (has_offsets code) ((r + 1) * width_of code) (r * entry_size code)
needed_by code r n (suc (suc b)) = cond (is_string code) n (cond (is_list_view code) (r * width_of code) (r * 4))

abbrev pub needed : List ℕ → List ℕ → ℕ → ℕ → ℕ
needed plan counters i b = needed_by (code_of plan i) (rows counters i) (bytes counters i) b

-- ---- the lent table: 2 numbers a part, where it starts in the room and its bytes

abbrev pub start_at : List ℕ → ℕ → ℕ
start_at parts p = get_or parts (2 * p) 0

abbrev pub size_at : List ℕ → ℕ → ℕ
size_at parts p = get_or parts (2 * p + 1) 0

-- the bytes of the part of buffer b of node i; it starts at `start_of`
abbrev pub size_of : List ℕ → List ℕ → ℕ → ℕ → ℕ
size_of plan parts i b = size_at parts (number_of plan i b)

-- part p lies in a room of m bytes
abbrev pub in_room : List ℕ → ℕ → ℕ → Bool
in_room parts m p = leb (start_at parts p + size_at parts p) m

-- not "two nonempty parts overlapping"
unfoldable pub apart : List ℕ → ℕ → ℕ → Bool
apart parts p q =
    eqb (size_at parts p) 0
    || eqb (size_at parts q) 0
    || leb (start_at parts p + size_at parts p) (start_at parts q)
    || leb (start_at parts q + size_at parts q) (start_at parts p)

-- as a fact, of m bytes from a on and n bytes from b on
pub data Apart (a m b n : ℕ) : Type 0 where
  before : a + m ≤ b → Apart a m b n
  behind : b + n ≤ a → Apart a m b n
  first_empty : m ≡ 0 → Apart a m b n
  second_empty : n ≡ 0 → Apart a m b n

-- ---- the grounds

-- p holds of every node and buffer
abbrev pub every_part : List ℕ → (ℕ → ℕ → Bool) → Bool
every_part plan p = every (λ i. every (λ b. p i b) 3) (nodes_of plan)

-- buffer b of node i has no part, or one that holds its bytes
unfoldable pub part_holds : List ℕ → List ℕ → List ℕ → ℕ → ℕ → Bool
part_holds plan counters parts i b = only_if (has_part plan i b) (leb (needed plan counters i b) (size_of plan parts i b))

-- 13 where not: "a part can't hold its bytes after the call, validity dropped later included"
unfoldable pub parts_hold : List ℕ → List ℕ → List ℕ → Bool
parts_hold plan counters parts = every_part plan (part_holds plan counters parts)

-- 14 where not, at the opening: "wrong number of parts, a part outside the room, or two nonempty parts overlapping"
unfoldable pub parts_placed : List ℕ → ℕ → ℕ → Bool
parts_placed parts count m =
    eqb (length parts) (2 * count) && every (in_room parts m) count && every (λ p. every (λ q. apart parts p q) p) count

-- buffer b of node i has no part, or one that is in the table and lies in the room
unfoldable pub part_within : List ℕ → List ℕ → ℕ → ℕ → ℕ → Bool
part_within plan parts m i b =
    only_if (has_part plan i b) (ltb (2 * number_of plan i b + 1) (length parts) && in_room parts m (number_of plan i b))

-- 14 where not, at an order: "can't be carried out inside the lent memory"
unfoldable pub parts_within : List ℕ → List ℕ → ℕ → Bool
parts_within plan parts m = every_part plan (part_within plan parts m)

-- ---- what the laws of the parts are about

-- buffer b of node i has a part
pub record Used (plan : List ℕ) (i b : ℕ) : Type 0 where
  pub node : i < nodes_of plan
  pub part : has_part plan i b ≡ true

-- the plan names the parts of its nodes as the opening writes them
pub record Numbered (plan : List ℕ) : Type 0 where
  pub word_is : (i : ℕ) → i < nodes_of plan → part_of plan i ≡ part_word plan i

-- part p is that of a buffer of a node
pub record Named (plan : List ℕ) (p : ℕ) : Type 0 where
  pub node : ℕ
  pub buffer : ℕ
  pub used : Used plan node buffer
  pub number : number_of plan node buffer ≡ p
  pub answer : part_at plan p ≡ Some (spot node buffer)
