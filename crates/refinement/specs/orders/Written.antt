-- WHAT AN ORDER WRITES, by the counters before and after it (01: "An accepted order writes what it adds and otherwise only the last validity
-- byte's free bits; bytes past the used part are not written"; with one run for a gap also the last run end). The used part of buffer b of node i is the first `needed plan counts i b`
-- bytes of its part (parts/specs/Parts.antt); buffer 0 is the validity, one bit a row. Assumes nothing.
use Rattle.std.specs.Prelude.{◌≡◌, true, List, [], ◌∷◌, ℕ, zero, suc, ◌+◌, ◌*◌, ◌-◌, ◌/◌, ◌≤◌, ◌<◌, min, length, get_or}
use Rattle.bits.specs.Bits.{bits}
use Rattle.model.specs.Book.{Call, copy, nulls}
use Rattle.walk.specs.State.{code_of, bytes_of, rows, gap, top, far}
use Rattle.walk.specs.Log.{Entry, put, mask, amend, Log, start_of, in_room, Out}
use Rattle.walk.specs.Copy.{copy_walk}
use Rattle.walk.specs.Nulls.{null_walk}
use Rattle.plan.specs.parts.Parts.{needed, Used}
use Rattle.refinement.specs.orders.Order.{Lent, join_of}

-- the walk of an order: what it answers, counts and writes (walk/specs)
abbrev pub walk_of : Lent → List ℕ → Call → Out
walk_of x counters (copy s a e) = copy_walk (join_of x s) 8 0 a (e - a) counters
walk_of x counters (nulls n) = null_walk (join_of x 0) 8 0 (min n far) counters

-- counters are numbers of 64 bits; the entry points' types say so
pub record Counters (counters : List ℕ) : Type 0 where
  pub rows_top : (i : ℕ) → rows counters i ≤ top

module _ (plan parts : List ℕ) where
  -- byte p of the room is one that buffer b of node i has more by the counters d than by c: past the used part before, in the used part
  -- after; of a validity that has more rows, from the byte with the first free bit on
  abbrev pub Gained : List ℕ → List ℕ → ℕ → ℕ → ℕ → Type 0
  Gained c d p i zero = (rows c i < rows d i) × (start_of plan parts i 0 + rows c i / 8 ≤ p) × (p < start_of plan parts i 0 + needed plan d i 0)
  Gained c d p i (suc b) = (start_of plan parts i (suc b) + needed plan c i (suc b) ≤ p) × (p < start_of plan parts i (suc b) + needed plan d i (suc b))

  -- byte p of the room is one of the last run end, before the order, of run-end node h, and one run for a gap is chosen
  pub record LastEnd (c : List ℕ) (p h : ℕ) : Type 0 where
    pub runs : code_of plan h ≡ 23
    pub chosen : gap c h ≡ 0 → ⊥
    pub from : start_of plan parts (suc h) 1 + (rows c (suc h) - 1) * bytes_of plan (suc h) ≤ p
    pub to : p < start_of plan parts (suc h) 1 + needed plan c (suc h) 1

  -- THE ROOM AFTER AN ORDER, `after`, beside the room before it: bytes that no part has gained, and that are no last run end where one run for
  -- a gap is chosen, are as they were, and so are the bits of the rows before
  pub record OnlyAdds (c room d after : List ℕ) : Type 0 where
    pub same_length : length after ≡ length room
    pub other_bytes : (p : ℕ) → ((i b : ℕ) → Used plan i b → Gained c d p i b → ⊥) → ((h : ℕ) → Used plan (suc h) 1 → LastEnd c p h → ⊥) → get_or after p 0 ≡ get_or room p 0
    pub earlier_bits : (i q : ℕ) → Used plan i 0 → q < rows c i → get_or (bits after) (8 * start_of plan parts i 0 + q) 0 ≡ get_or (bits room) (8 * start_of plan parts i 0 + q) 0

  -- THE ROOM AFTER AN OPENING: bytes in no used part are as they were lent
  pub record OnlyUsed (room d after : List ℕ) : Type 0 where
    pub same_length : length after ≡ length room
    pub other_bytes : (p : ℕ) → ((i b : ℕ) → Used plan i b → start_of plan parts i b ≤ p → p < start_of plan parts i b + needed plan d i b → ⊥) → get_or after p 0 ≡ get_or room p 0

  -- A WRITE THAT IS MADE: it lies in a room of m bytes, and `enter` (walk/specs/Log.antt) leaves out only what does not
  abbrev pub Made : ℕ → Entry → Type 0
  Made m (put i b o bs) = in_room (start_of plan parts i b) o (length bs) m ≡ true
  Made m (mask i p vs) = in_room (8 * start_of plan parts i 0) p (length vs) (8 * m) ≡ true
  Made m (amend i b o bs) = in_room (start_of plan parts i b) o (length bs) m ≡ true

  unfoldable pub AllMade : ℕ → Log → Type 0
  AllMade m [] = Unit {0}
  AllMade m (e ∷ l) = Made m e × AllMade m l

-- n is at most v, where v is not the largest number: a counter that would pass 64 bits stays at it
abbrev pub Ends : ℕ → ℕ → Type 0
Ends n v = v < top → n ≤ v
