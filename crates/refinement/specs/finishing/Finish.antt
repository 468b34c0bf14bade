-- What finishing comes to on lent memory: the tables of the finished array (docs/FORMAT.md), which can be lent again. Assumes nothing.
-- `into_builder` of arrow-data 60.1.0 src/transform/mod.rs, Apache-2.0; see NOTICE.
use Rattle.std.specs.Prelude.{Bool, true, not, cond, ◌&&◌, ◌||◌, List, [], ◌∷◌, ◌++◌, ℕ, zero, suc, ◌+◌, ◌*◌, ◌/◌, ◌%◌, min, length, get_or, leb, ltb, eqb}
use Rattle.bits.specs.Bits.{bits_at, zeros}
use Rattle.columnar.specs.Row.{seg, sum}
use Rattle.columnar.specs.Array.{null_count_of}
use Rattle.columnar.specs.Test.{every}
use Rattle.schema.specs.formats.Code.{is_view}
use Rattle.array_data.specs.Tables.{Tables}
use Rattle.array_data.specs.lent_tables.Lent.{tables, mask_of}
use Rattle.plan.specs.dictionaries.Sources.{array_of}
use Rattle.array_data.specs.Sources.{first_of}
use Rattle.walk.specs.State.{code_of, rows, place, length_of, offset_of, far}
use Rattle.walk.specs.Log.{start_of}
use Rattle.plan.specs.parts.Parts.{nodes_of, copied, has_part, needed, parts_hold, parts_within}
use Rattle.columns.specs.Grounds.{ceiling}
use Rattle.refinement.specs.orders.Order.{Lent, join_of, source_count}

-- the tables as they are left; ground: 0, or the number of the refusal
pub record Finished : Type 0 where
  pub refusal : ℕ
  pub lengths : List ℕ
  pub nulls : List ℕ
  pub places : List ℕ
  pub buffers : List ℕ

-- buffers: the sources' data buffers of views; base: where the room begins in the body that the tables are about
module _ (x : Lent) (buffers counters room : List ℕ) (base : ℕ) where
  -- ---- null counts, "counted from bits"

  -- the zero bits among the rows of node i, which has a part for its validity
  unfoldable pub zeros_at : ℕ → ℕ
  zeros_at i = cond (has_part x.plan i 0) (zeros (bits_at (8 * start_of x.plan x.parts i 0) (rows counters i) room)) 0

  -- node i of source 0, whose dictionary is kept
  abbrev pub kept_node : ℕ → ℕ
  kept_node i = first_of x.sources 0 + i

  abbrev pub kept_tables : Tables
  kept_tables = tables x.lengths x.places x.body

  unfoldable pub nulls_at : ℕ → ℕ
  nulls_at i = cond (copied x.plan i) (zeros_at i) (null_count_of (array_of kept_tables (kept_node i)))

  -- the bits of a kept dictionary stand in the body
  unfoldable pub kept_in : ℕ → Bool
  kept_in i = copied x.plan i || (ltb (offset_of (join_of x 0) i + length_of (join_of x 0) i) far && mask_of kept_tables (kept_node i) true)

  -- ---- lengths: offset 0, but a kept dictionary is as source 0 has it

  abbrev pub length_at : ℕ → ℕ
  length_at i = cond (copied x.plan i) (rows counters i) (length_of (join_of x 0) i)

  abbrev pub offset_at : ℕ → ℕ
  offset_at i = cond (copied x.plan i) 0 (offset_of (join_of x 0) i)

  -- ---- data buffers of views: those of all sources, in order

  abbrev pub sources : ℕ
  sources = min (source_count x.plan) 16

  -- how many source s has at node i: at most 32, so that 33 stands for any number above
  abbrev pub data_count : ℕ → ℕ → ℕ
  data_count i s = min (place (join_of x s) i 8) 33

  -- how many the first s sources have at node i
  unfoldable pub buffers_of : ℕ → ℕ → ℕ
  buffers_of i s = sum (data_count i) s

  -- how many the view nodes before node i have
  unfoldable pub buffers_before : ℕ → ℕ
  buffers_before i = sum (λ k. cond (is_view (code_of x.plan k)) (buffers_of k sources) 0) i

  -- their numbers, 2 each
  unfoldable pub buffers_from : ℕ → ℕ → List ℕ
  buffers_from i zero = []
  buffers_from i (suc s) = buffers_from i s ++ seg (λ q. get_or buffers q 0) (2 * place (join_of x s) i 7) (2 * data_count i s)

  unfoldable pub buffers_up_to : ℕ → List ℕ
  buffers_up_to zero = []
  buffers_up_to (suc i) = buffers_up_to i ++ cond (is_view (code_of x.plan i)) (buffers_from i sources) []

  -- ---- places

  -- where buffer b of node i begins, and its bytes; 0 where there is none
  abbrev pub buffer_start : ℕ → ℕ → ℕ
  buffer_start i b = cond (has_part x.plan i b) (base + start_of x.plan x.parts i b) 0

  abbrev pub buffer_size : ℕ → ℕ → ℕ
  buffer_size i b = cond (has_part x.plan i b) (needed x.plan counters i b) 0

  -- number j of the nine of node i, whose buffers are copied: "drop validity if no bit is 0, always for unions and run-end nodes"
  unfoldable pub copied_place : ℕ → ℕ → ℕ
  copied_place i j =
      let full = eqb (zeros_at i) 0 in
      let view = is_view (code_of x.plan i) in
      let valid : List ℕ = cond full 0 1 ∷ cond full 0 (base + start_of x.plan x.parts i 0) ∷ cond full 0 ((rows counters i + 7) / 8) ∷ [] in
      get_or (valid ++ buffer_start i 1 ∷ buffer_size i 1 ∷ buffer_start i 2 ∷ buffer_size i 2 ∷ cond view (buffers_before i) 0 ∷ cond view (buffers_of i sources) 0 ∷ []) j 0

  -- "View data buffers and a kept dictionary are not copied ..: the finished array names their places in the source body"; its validity
  -- too is dropped if no bit is 0
  unfoldable pub kept_place : ℕ → ℕ → ℕ
  kept_place i j = cond (ltb j 3) (cond (eqb (nulls_at i) 0) 0 (place (join_of x 0) i j)) (cond (ltb j 7) (place (join_of x 0) i j) 0)

  unfoldable pub place_at : ℕ → ℕ → ℕ
  place_at i j = cond (copied x.plan i) (copied_place i j) (kept_place i j)

  -- ---- the tables of the nodes

  unfoldable pub length_table : List ℕ
  length_table = seg (λ q. cond (eqb (q % 2) 0) (length_at (q / 2)) (offset_at (q / 2))) 0 (2 * nodes_of x.plan)

  unfoldable pub null_table : List ℕ
  null_table = seg nulls_at 0 (nodes_of x.plan)

  unfoldable pub place_table : List ℕ
  place_table = seg (λ q. place_at (q / 9) (q % 9)) 0 (9 * nodes_of x.plan)

  abbrev pub buffer_table : List ℕ
  buffer_table = buffers_up_to (nodes_of x.plan)

  -- ---- finishing, into the tables that are lent

  module _ (lengths nulls places names : List ℕ) where
    abbrev pub refused : ℕ → Finished
    refused g = record { refusal = g; lengths = lengths; nulls = nulls; places = places; buffers = names }

    -- each of the lengths that the finished array takes
    unfoldable pub tables_fit : Bool
    tables_fit =
        eqb (length lengths) (2 * nodes_of x.plan)
        && eqb (length nulls) (nodes_of x.plan)
        && eqb (length places) (9 * nodes_of x.plan)
        && eqb (length names) (2 * buffers_before (nodes_of x.plan))

    -- counters, parts and room are those of a join
    unfoldable pub room_fits : Bool
    room_fits = eqb (length counters) 96 && parts_within x.plan x.parts (length room) && parts_hold x.plan counters x.parts

    -- the sources' body ends at the base or before, and with the room behind it no position passes 64 bits
    unfoldable pub sizes_fit : Bool
    sizes_fit = leb base ceiling && leb (length room) ceiling

    -- FINISHING: never refused after an accepted opening, where the tables are of these lengths
    unfoldable pub finishing : Finished
    finishing =
        cond sizes_fit
        (cond (every kept_in (nodes_of x.plan))
        (cond (room_fits && tables_fit) (record { refusal = 0; lengths = length_table; nulls = null_table; places = place_table; buffers = buffer_table }) (refused 14))
        (refused 12)) (refused 9)
