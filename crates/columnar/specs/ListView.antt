-- List-views: an offset and a size for each row, into one child. Assumes nothing.
use Rattle.std.specs.Prelude.{Bool, List, ℕ, ◌+◌, ◌*◌, ◌≤◌, ◌<◌, length}
use Rattle.columnar.specs.Row.{Row, list, rows, seg}
use Rattle.columnar.specs.Types.{half}
use Rattle.columnar.specs.Array.{Array, item, read_with}

pub record ListView (P : Type 0) : Type 0 where
  pub offsets : List ℕ
  pub sizes : List ℕ
  pub child : Array P

-- row i: the child's rows offsets[i] .. offsets[i] + sizes[i] - 1
abbrev pub list_view_at : {P : Type 0} → ℕ → (P → ℕ → Row) → ListView P → ℕ → Row
list_view_at w at b i = list (rows (seg (read_with at b.child) (item w b.offsets i) (item w b.sizes i)))

-- "list-view offset and size not negative, their sum within the child, null rows included"
pub record Entry (w : ℕ) {P : Type 0} (b : ListView P) (i : ℕ) : Type 0 where
  pub offset : item w b.offsets i < half w
  pub size : item w b.sizes i < half w
  pub within : item w b.offsets i + item w b.sizes i ≤ b.child.len

pub record ListViewRule (w : ℕ) {P : Type 0} (kid : Array P → Type 0) (ok : ℕ → Bool) (b : ListView P) (off len : ℕ) : Type 0 where
  pub hold_offsets : (off + len) * w ≤ length b.offsets
  pub hold_sizes : (off + len) * w ≤ length b.sizes
  pub entries : (i : ℕ) → i < len → Entry w b (off + i)
  pub child_rule : kid b.child
