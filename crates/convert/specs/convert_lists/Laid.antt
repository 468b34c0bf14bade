-- Rows of a list-view as they are laid into bytes, offset and size in turn. Assumes nothing.
use Rattle.std.specs.Prelude.{List, ℕ, zero, suc, ◌+◌, ◌*◌, ◌-◌}
use Rattle.number.specs.Number.{entry, encode, splice}

-- the list's offsets of w bytes stand in s from the byte `from` on; the offsets go to the byte `at`, the sizes to the byte `too`
module _ (w : ℕ) (s : List ℕ) (from at too : ℕ) where
  -- row r
  abbrev pub laid_row : ℕ → List ℕ → List ℕ
  laid_row r room = splice (too + w * r) (encode w (entry w s from (r + 1) - entry w s from r)) (splice (at + w * r) (encode w (entry w s from r)) room)

  -- n rows from row r on
  unfoldable pub laid_rows : ℕ → ℕ → List ℕ → List ℕ
  laid_rows zero r room = room
  laid_rows (suc n) r room = laid_rows n (r + 1) (laid_row r room)
