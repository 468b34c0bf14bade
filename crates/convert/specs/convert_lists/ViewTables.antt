-- THE TABLES OF THE LIST-VIEW of a list column (02, W4): the finished root's numbers, and behind them those of the column's nodes below its root, which
-- are "named in the source body without a part". Assumes nothing.
use Rattle.std.specs.Prelude.{cond, ◌&&◌, List, ℕ, zero, suc, ◌+◌, ◌*◌, ◌/◌, ◌%◌, get_or, ltb, eqb}
use Rattle.columnar.specs.Row.{seg}
use Rattle.columnar.specs.Array.{null_count_of}
use Rattle.array_data.specs.Tables.{Tables, length_of, offset_of, place}
use Rattle.plan.specs.dictionaries.Sources.{array_of}

-- the column is the n nodes of x from node `first` on; root: the numbers of the node that is finished
module _ (x : Tables) (first n : ℕ) (root : List ℕ) where
  -- length and offset of node i
  abbrev pub length_at : ℕ → ℕ
  length_at zero = get_or root 0 0
  length_at (suc i) = length_of x (first + suc i)

  abbrev pub offset_at : ℕ → ℕ
  offset_at zero = get_or root 1 0
  offset_at (suc i) = offset_of x (first + suc i)

  -- its null count, "taken from its bits" (W1)
  abbrev pub nulls_at : ℕ → ℕ
  nulls_at zero = get_or root 0 0
  nulls_at (suc i) = null_count_of (array_of x (first + suc i))

  -- number j of its nine places: finished arrays "drop validity if no bit is 0" (01)
  abbrev pub place_at : ℕ → ℕ → ℕ
  place_at zero j = get_or root j 0
  place_at (suc i) j = cond (ltb j 3 && eqb (nulls_at (suc i)) 0) 0 (place x (first + suc i) j)

  unfoldable pub view_lengths : List ℕ
  view_lengths = seg (λ q. cond (eqb (q % 2) 0) (length_at (q / 2)) (offset_at (q / 2))) 0 (2 * n)

  unfoldable pub view_nulls : List ℕ
  view_nulls = seg nulls_at 0 n

  unfoldable pub view_places : List ℕ
  view_places = seg (λ q. place_at (q / 9) (q % 9)) 0 (9 * n)

-- ALL OF THEM, about the root's body: data buffers of views are those that the column's tables name
abbrev pub view_tables : Tables → (first n : ℕ) → Tables → Tables
view_tables x first n root =
    record { lengths = view_lengths x first n root.lengths; places = view_places x first n root.places; buffers = x.buffers; body = root.body }
