-- Sparse and dense unions: a type id for each row, and a child for each id. Assumes nothing.
use Rattle.std.specs.Prelude.{Bool, ℕ, ◌+◌, ◌*◌, ◌≤◌, ◌<◌, length, get_or}
use mathlib.Core.List.{List, Memᴰ}
use Rattle.columnar.specs.Row.{Row, union}
use Rattle.columnar.specs.Types.{half}
use Rattle.columnar.specs.Array.{Array, item, read_with}

pub record Sparse (P : ℕ → Type 0) : Type 0 where
  pub ids : List ℕ
  pub children : (c : ℕ) → Array (P c)

pub record Dense (P : ℕ → Type 0) : Type 0 where
  pub ids : List ℕ
  pub positions : List ℕ
  pub children : (c : ℕ) → Array (P c)

-- "sparse: the child's slot at the same place": the parent's offset is added once, by the parent, and the child's by the child
abbrev pub sparse_at : {P : ℕ → Type 0} → ((c : ℕ) → P c → ℕ → Row) → Sparse P → ℕ → Row
sparse_at at b i = let c = get_or b.ids i 0 in union c (read_with (at c) (b.children c) i)

-- "dense: the child's slot that the offsets buffer names"
abbrev pub dense_at : {P : ℕ → Type 0} → ((c : ℕ) → P c → ℕ → Row) → Dense P → ℕ → Row
dense_at at b i = let c = get_or b.ids i 0 in union c (read_with (at c) (b.children c) (item 4 b.positions i))

-- "union ids declared; sparse children at least offset + length long"
pub record SparseRule {P : ℕ → Type 0} (ids : List ℕ) (kid : (c : ℕ) → Array (P c) → Type 0) (ok : ℕ → Bool) (b : Sparse P) (off len : ℕ) : Type 0 where
  pub hold : off + len ≤ length b.ids
  pub declared : (i : ℕ) → i < len → Memᴰ (get_or b.ids (off + i) 0) ids
  pub long : (c : ℕ) → Memᴰ c ids → off + len ≤ (b.children c).len
  pub child_rule : (c : ℕ) → Memᴰ c ids → kid c (b.children c)

-- "dense positions within the child"; they are signed numbers of four bytes
pub record DenseRule {P : ℕ → Type 0} (ids : List ℕ) (kid : (c : ℕ) → Array (P c) → Type 0) (ok : ℕ → Bool) (b : Dense P) (off len : ℕ) : Type 0 where
  pub hold_ids : off + len ≤ length b.ids
  pub hold_positions : (off + len) * 4 ≤ length b.positions
  pub declared : (i : ℕ) → i < len → Memᴰ (get_or b.ids (off + i) 0) ids
  pub positive : (i : ℕ) → i < len → item 4 b.positions (off + i) < half 4
  pub within : (i : ℕ) → i < len → item 4 b.positions (off + i) < (b.children (get_or b.ids (off + i) 0)).len
  pub child_rule : (c : ℕ) → Memᴰ c ids → kid c (b.children c)
