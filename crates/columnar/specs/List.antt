-- Lists: one more offset than rows, into one child (02, W4). Assumes nothing.
use Rattle.std.specs.Prelude.{Bool, List, ℕ, suc, ◌-◌}
use Rattle.columnar.specs.Row.{Row, list, rows, seg}
use Rattle.columnar.specs.Array.{Array, item, read_with}
use Rattle.columnar.specs.Plain.{OffsetsRule}

pub record Listed (P : Type 0) : Type 0 where
  pub offsets : List ℕ
  pub child : Array P

-- row i: the child's rows offsets[i] .. offsets[i + 1] - 1
abbrev pub list_at : {P : Type 0} → ℕ → (P → ℕ → Row) → Listed P → ℕ → Row
list_at w at b i = list (rows (seg (read_with at b.child) (item w b.offsets i) (item w b.offsets (suc i) - item w b.offsets i)))

-- "offsets follow the byte-string rule, with child rows in place of bytes"; null rows included
pub record ListRule (w : ℕ) {P : Type 0} (kid : Array P → Type 0) (ok : ℕ → Bool) (b : Listed P) (off len : ℕ) : Type 0 where
  pub offsets_rule_lem : OffsetsRule w b.offsets b.child.len off len
  pub child_rule : kid b.child
