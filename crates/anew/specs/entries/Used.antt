-- Which entries of a dictionary are in use (W9). Assumes nothing.
use Rattle.std.specs.Prelude.{Bool, false, ◌&&◌, ◌||◌, List, ℕ, zero, suc, ◌+◌, length, eqb}
use Rattle.columnar.specs.Types.{Number, width}
use Rattle.columnar.specs.Array.{Array, item}
use Rattle.columnar.specs.Dictionary.{Dictionary}
use Rattle.anew.specs.runs.Runs.{ok_at, those}

-- f holds of some i below n
abbrev pub some_below : (ℕ → Bool) → ℕ → Bool
some_below f zero = false
some_below f (suc n) = some_below f n || f n

module _ {P : Type 0} (k : Number) (x : Array (Dictionary P)) where
  -- the key of row i
  abbrev pub key_at : ℕ → ℕ
  key_at i = item (width k) x.body.keys (x.off + i)

  -- row i is valid and its key names entry e
  abbrev pub names : ℕ → ℕ → Bool
  names e i = ok_at x i && eqb (key_at i) e

  -- "some valid key names" entry e: that of a row of the column
  abbrev pub used : ℕ → Bool
  used e = some_below (names e) x.len

  -- how many entries below e are in use
  abbrev pub rank : ℕ → ℕ
  rank e = length (those used 0 e)

  -- "only the entries that some valid key names .. in their old order"
  abbrev pub kept : List ℕ
  kept = those used 0 x.body.values.len
