-- A destination's parts in the lent room: where they lie, and when the room holds a memory. Assumes nothing.
use Rattle.std.specs.Prelude.{◌≡◌, List, [], ◌∷◌, ℕ, ◌+◌, ◌*◌, ◌-◌, ◌/◌, ◌≤◌, ◌<◌, ◌^◌, length, take, drop, get_or}
use Rattle.bits.specs.Bits.{bits, bits_at}
use Rattle.walk.specs.State.{part_of}
use Rattle.walk.specs.Log.{Entry, put, mask, amend, Log, start_of}
use Rattle.refinement.specs.walk_is_model.Memory.{Memory}

-- the bytes of the part of buffer b of node i; it starts at `start_of`
abbrev pub size_of : List ℕ → List ℕ → ℕ → ℕ → ℕ
size_of plan parts i b = get_or parts (2 * (part_of plan i + b - 1) + 1) 0

-- every entry is below m: bytes below 256, bits below 2
abbrev pub AllBelow : ℕ → List ℕ → Type 0
AllBelow m s = (k : ℕ) → get_or s k 0 < m

-- not "two nonempty parts overlapping": m bytes from a on, n bytes from b on
pub data Apart (a m b n : ℕ) : Type 0 where
  before : a + m ≤ b → Apart a m b n
  behind : b + n ≤ a → Apart a m b n
  first_empty : m ≡ 0 → Apart a m b n
  second_empty : n ≡ 0 → Apart a m b n

-- bytes stand in the room from `start` on
abbrev pub HasBytes : ℕ → List ℕ → List ℕ → Type 0
HasBytes start bs room = take (length bs) (drop start room) ≡ bs

-- bits stand in the room from byte `start` on, with zeros behind them in their last byte: "bits past the length are 0"
pub record HasBits (start : ℕ) (vs room : List ℕ) : Type 0 where
  pub run : bits_at (8 * start) (length vs) room ≡ vs
  pub rest : (p : ℕ) → length vs ≤ p → p < 8 * ((length vs + 7) / 8) → get_or (bits room) (8 * start + p) 0 ≡ 0

-- byte p is not one that a log writes over
module _ (plan parts : List ℕ) where
  abbrev pub NotOver : Entry → ℕ → Type 0
  NotOver (put i b o bs) p = Unit {0}
  NotOver (mask i q vs) p = Unit {0}
  NotOver (amend i b o bs) p = start_of plan parts i b + o ≤ p → p < start_of plan parts i b + o + length bs → ⊥

  unfoldable pub NoneOver : Log → ℕ → Type 0
  NoneOver [] p = Unit {0}
  NoneOver (e ∷ l) p = NotOver e p × NoneOver l p

-- Used: which buffer of which node has a part; buffer 0 is the validity
module _ (plan parts : List ℕ) (Used : ℕ → ℕ → Type 0) where
  -- the parts lie well in a room of m bytes: none of what ground 14 says, and "Each body has at most 2^63−1 bytes"
  pub record Placed (m : ℕ) : Type 0 where
    pub small : m < 2 ^ 63
    pub inside : (i b : ℕ) → Used i b → start_of plan parts i b + size_of plan parts i b ≤ m
    pub apart : (i b j e : ℕ) → Used i b → Used j e → (i ≡ j → b ≡ e → ⊥)
        → Apart (start_of plan parts i b) (size_of plan parts i b) (start_of plan parts j e) (size_of plan parts j e)

  -- THE ROOM HOLDS THE MEMORY
  pub record Lies (room : List ℕ) (μ : Memory) : Type 0 where
    pub are_bytes : AllBelow 256 room
    pub bytes_lie : (i b : ℕ) → Used i b → 1 ≤ b → HasBytes (start_of plan parts i b) (μ.at i b) room
    pub bits_lie : (i : ℕ) → Used i 0 → HasBits (start_of plan parts i 0) (μ.bits i) room

  -- no part is too small: not "a part can't hold its bytes after the call" (13)
  pub record Fits (μ : Memory) : Type 0 where
    pub bytes_fit : (i b : ℕ) → Used i b → 1 ≤ b → length (μ.at i b) ≤ size_of plan parts i b
    pub bits_fit : (i : ℕ) → Used i 0 → length (μ.bits i) ≤ 8 * size_of plan parts i 0

  -- byte p is none of those that a log adds from μ to ν or writes over, nor in the validity byte whose free bits are filled
  pub record Outside (l : Log) (μ ν : Memory) (p : ℕ) : Type 0 where
    pub no_bytes : (i b : ℕ) → Used i b → 1 ≤ b → start_of plan parts i b + length (μ.at i b) ≤ p → p < start_of plan parts i b + length (ν.at i b) → ⊥
    pub no_bits : (i : ℕ) → Used i 0 → length (μ.bits i) < length (ν.bits i) → start_of plan parts i 0 + length (μ.bits i) / 8 ≤ p
        → p < start_of plan parts i 0 + (length (ν.bits i) + 7) / 8 → ⊥
    pub not_over : NoneOver plan parts l p

module _ (Used : ℕ → ℕ → Type 0) where
  -- a write of bytes or bits into a part that there is
  abbrev pub UsedEntry : Entry → Type 0
  UsedEntry (put i b o bs) = Used i b × (1 ≤ b) × AllBelow 256 bs
  UsedEntry (mask i p vs) = Used i 0 × AllBelow 2 vs
  UsedEntry (amend i b o bs) = Used i b × (1 ≤ b) × AllBelow 256 bs

  unfoldable pub AllUsed : Log → Type 0
  AllUsed [] = Unit {0}
  AllUsed (e ∷ l) = UsedEntry e × AllUsed l
