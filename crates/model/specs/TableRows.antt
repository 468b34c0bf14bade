-- Rows as numbers, for the table of checked rows. Assumes nothing.
use Rattle.std.specs.Prelude.{List, [], ◌∷◌, ◌++◌, ℕ, suc, length}
use Rattle.columnar.specs.Row.{Row, null, whole, single, double, bytes, list, union}

-- 0 for null, else one more than the number of bytes, and the bytes; no other rows are shown
abbrev pub row_shown : Row → List ℕ
row_shown null = 0 ∷ []
row_shown (whole z) = []
row_shown (single n) = []
row_shown (double n) = []
row_shown (bytes s) = suc (length s) ∷ s
row_shown (list rs) = []
row_shown (union c r) = []

abbrev pub rows_shown : List Row → List ℕ
rows_shown [] = []
rows_shown (r ∷ rs) = row_shown r ++ rows_shown rs
