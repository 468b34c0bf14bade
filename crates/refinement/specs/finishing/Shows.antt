-- When lent tables (docs/FORMAT.md) describe a column byte for byte, and when a table of null counts is its own. Assumes nothing.
use Rattle.std.specs.Prelude.{◌≡◌, ℕ, suc, ◌+◌, ◌≤◌, length, take, drop, get_or}
use mathlib.Core.List.{List, Memᴰ}
use Rattle.columnar.specs.Types.{Plain, fixed, string, Ty, t_plain, t_view, t_list_view, t_list, t_sparse, t_dense, t_run_end, t_dictionary}
use Rattle.columnar.specs.Array.{Array, null_count_of}
use Rattle.columnar.specs.Plain.{PlainBody}
use Rattle.columnar.specs.Reading.{Body, Column}
use Rattle.array_data.specs.Tables.{Tables, length_of, offset_of, valid_of, first_buffer, second_buffer, data_buffers}
use Rattle.array_data.specs.Typed.{Tree, node_of}
use Rattle.refinement.specs.orders.Order.{Lent}
use Rattle.refinement.specs.finishing.Finish.{length_table, place_table, buffer_table}

-- node i is this array: its length, offset and validity, and its body as `inner` says
pub record ShowsNode {B : Type 0} (y : Tables) (i : ℕ) (inner : B → Type 0) (a : Array B) : Type 0 where
  pub len_is : length_of y i ≡ a.len
  pub off_is : offset_of y i ≡ a.off
  pub valid_is : valid_of y i ≡ a.valid
  pub body_is : inner a.body

-- a union's children only where their ids are declared; where a dictionary's values begin is not compared
module _ (tree : Tree) (y : Tables) where
  abbrev pub ShowsPlain : (p : Plain) → ℕ → PlainBody p → Type 0
  ShowsPlain (fixed n) i b = first_buffer y i ≡ b
  ShowsPlain (string w) i b = (first_buffer y i ≡ b.offsets) × (second_buffer y i ≡ b.chars)

  abbrev pub ShowsData : (t : Ty) → ℕ → Body t → Type 0
  ShowsData (t_plain p) i b = ShowsPlain p i b
  ShowsData t_view i b = (first_buffer y i ≡ b.views) × (data_buffers y i ≡ b.buffers)
  ShowsData (t_list_view w t) i b = (first_buffer y i ≡ b.offsets) × (second_buffer y i ≡ b.sizes) × ShowsNode y (suc i) (ShowsData t (suc i)) b.child
  ShowsData (t_list w t) i b = (first_buffer y i ≡ b.offsets) × ShowsNode y (suc i) (ShowsData t (suc i)) b.child
  ShowsData (t_sparse ids nullable f) i b =
      (first_buffer y i ≡ b.ids) × ((c : ℕ) → Memᴰ c ids → ShowsNode y (node_of tree i ids c) (ShowsData (f c) (node_of tree i ids c)) (b.children c))
  ShowsData (t_dense ids nullable f) i b =
      (first_buffer y i ≡ b.ids) × (second_buffer y i ≡ b.positions)
      × ((c : ℕ) → Memᴰ c ids → ShowsNode y (node_of tree i ids c) (ShowsData (f c) (node_of tree i ids c)) (b.children c))
  ShowsData (t_run_end w t) i b =
      ShowsNode y (suc i) (λ s. first_buffer y (suc i) ≡ s) b.ends × ShowsNode y (suc (suc i)) (ShowsData t (suc (suc i))) b.values
  ShowsData (t_dictionary k p) i b = (first_buffer y i ≡ b.keys) × ShowsNode y (suc i) (ShowsPlain p (suc i)) b.values

  -- THE TABLES DESCRIBE THE COLUMN at node i
  abbrev pub Shows : (t : Ty) → ℕ → Column t → Type 0
  Shows t i = ShowsNode y i (ShowsData t i)

-- node i has this array's null count, and the nodes below it theirs
pub record CountsNode {B : Type 0} (nulls : List ℕ) (i : ℕ) (inner : B → Type 0) (a : Array B) : Type 0 where
  pub count_is : get_or nulls i 0 ≡ null_count_of a
  pub below : inner a.body

module _ (tree : Tree) (nulls : List ℕ) where
  abbrev pub CountsData : (t : Ty) → ℕ → Body t → Type 0
  CountsData (t_plain p) i b = Unit {0}
  CountsData t_view i b = Unit {0}
  CountsData (t_list_view w t) i b = CountsNode nulls (suc i) (CountsData t (suc i)) b.child
  CountsData (t_list w t) i b = CountsNode nulls (suc i) (CountsData t (suc i)) b.child
  CountsData (t_sparse ids nullable f) i b = (c : ℕ) → Memᴰ c ids → CountsNode nulls (node_of tree i ids c) (CountsData (f c) (node_of tree i ids c)) (b.children c)
  CountsData (t_dense ids nullable f) i b = (c : ℕ) → Memᴰ c ids → CountsNode nulls (node_of tree i ids c) (CountsData (f c) (node_of tree i ids c)) (b.children c)
  CountsData (t_run_end w t) i b = CountsNode nulls (suc i) (λ s. Unit {0}) b.ends × CountsNode nulls (suc (suc i)) (CountsData t (suc (suc i))) b.values
  CountsData (t_dictionary k p) i b = CountsNode nulls (suc i) (λ s. Unit {0}) b.values

  -- THE NULL COUNTS OF THE COLUMN, "counted from bits", from node i on
  abbrev pub Counts : (t : Ty) → ℕ → Column t → Type 0
  Counts t i = CountsNode nulls i (CountsData t i)

-- ---- the finished tables, about a body in which the room begins at `base`

abbrev pub finished_tables : Lent → List ℕ → List ℕ → List ℕ → ℕ → List ℕ → Tables
finished_tables x buffers counters room base z =
    record { lengths = length_table x buffers counters room base; places = place_table x buffers counters room base; buffers = buffer_table x buffers counters room base; body = z }

-- a body with the sources' body in front and the room from `base` on
pub record Bodied (body : List ℕ) (x : Lent) (room : List ℕ) (base : ℕ) : Type 0 where
  pub front : take (length x.body) body ≡ x.body
  pub behind : take (length room) (drop base body) ≡ room
  pub inside : base + length room ≤ length body
