-- The keys of a dictionary column's rows as they stand in a body, the entries that they use, and the keys renumbered (W9).
-- Assumes nothing.
use Rattle.std.specs.Prelude.{◌≡◌, Bool, true, cond, ◌&&◌, List, ℕ, ◌+◌, ◌*◌, ◌-◌, ◌^◌, ◌≤◌, ◌<◌, length, get_or, leb, ltb, eqb}
use Rattle.clauses.specs.Slices.{began, left, MutSlice}
use Rattle.number.specs.Number.{entry, splice}
use Rattle.bits.specs.Bits.{bits}
use Rattle.columnar.specs.Row.{seg}
use Rattle.columnar.specs.Entries.{encodes}
use Rattle.anew.specs.runs.Runs.{those}
use Rattle.anew.specs.entries.Used.{some_below}

-- wide: the bytes of a key; at: the byte where the keys begin; masked: whether there is validity; mask: the byte where it begins; off: the
-- slot of the first row; len: the rows
pub record Keys : Type 0 where
  pub body : List ℕ
  pub wide : ℕ
  pub at : ℕ
  pub masked : Bool
  pub mask : ℕ
  pub off : ℕ
  pub len : ℕ

abbrev pub keys : List ℕ → ℕ → ℕ → Bool → ℕ → ℕ → ℕ → Keys
keys body wide at masked mask off len = record { body = body; wide = wide; at = at; masked = masked; mask = mask; off = off; len = len }

-- the bytes of an integer
abbrev pub KeyWidth : ℕ → Type 0
KeyWidth w = (w ≡ 1 → ⊥) → (w ≡ 2 → ⊥) → (w ≡ 4 → ⊥) → w ≡ 8

-- keys and validity lie in the body
pub record Within (x : Keys) : Type 0 where
  pub width : KeyWidth x.wide
  pub slots : x.off + x.len < 2 ^ 63
  pub keys_in_lem : x.at + x.wide * (x.off + x.len) ≤ length x.body
  pub bits_in_lem : x.masked ≡ true → 8 * x.mask + (x.off + x.len) ≤ 8 * length x.body

-- the bit of a slot
unfoldable pub slot_valid : List ℕ → Bool → ℕ → ℕ → Bool
slot_valid body masked mask k = cond masked (eqb (get_or (bits body) (8 * mask + k) 0) 1) true

module _ (x : Keys) where
  -- row r is valid
  unfoldable pub valid_of : ℕ → Bool
  valid_of r = slot_valid x.body x.masked x.mask (x.off + r)

  -- the key of row r
  unfoldable pub key_of : ℕ → ℕ
  key_of r = entry x.wide x.body x.at (x.off + r)

  -- row r is valid and its key names entry e
  abbrev pub names : ℕ → ℕ → Bool
  names e r = valid_of r && eqb (key_of r) e

  -- "some valid key names" entry e, that of one of the rows
  unfoldable pub used : ℕ → Bool
  used e = some_below (names e) x.len

  -- how many entries below e are in use
  unfoldable pub rank : ℕ → ℕ
  rank e = length (those used 0 e)

  -- "renumber the keys; keys under nulls become 0"; a key that is not below e is 0 too
  unfoldable pub new_key : ℕ → ℕ → ℕ
  new_key e r = cond (valid_of r && ltb (key_of r) e) (rank (key_of r)) 0

  -- the new keys of all rows, of a dictionary of e entries
  unfoldable pub new_keys : ℕ → List ℕ
  new_keys e = encodes x.wide (seg (new_key e) 0 x.len)

  -- .. by the entries below e
  abbrev pub new_below : ℕ → List ℕ
  new_below e = encodes x.wide (seg (new_key e) 0 x.len)

  -- a room that holds the keys by the entries below e, at `to`, holds those by the entries below e'
  abbrev pub Renumbers : (room : MutSlice) → (to e e' : ℕ) → Type 0
  Renumbers room to e e' = (old : List ℕ) → to + x.wide * x.len ≤ length old → began room ≡ splice to (new_below e) old → left room ≡ splice to (new_below e') old

  -- where the key of row r falls in the block of n entries from b on; 512 where the row is null or its key falls outside
  unfoldable pub slot_in : ℕ → ℕ → ℕ → ℕ
  slot_in b n r = cond (valid_of r && leb b (key_of r) && ltb (key_of r - b) n) (key_of r - b) 512

  -- the ranks of the first block of a dictionary of e entries: of each of at most 512, and of the one behind them
  abbrev pub Head : ℕ → List ℕ → Type 0
  Head e m = (j : ℕ) → j ≤ e → j ≤ 512 → get_or m j 0 ≡ rank j
