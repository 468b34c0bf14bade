-- THE THREE DEMANDS OVER LISTS WHOSE ITEMS ARE SINGLE ORDERS AND TRIPS, after an accepted opening, refused items included. Assumes nothing.
use mathlib.Core.Path.{◌≡◌, refl, sym, ap, subst, ◌∙◌}
use mathlib.Core.Bool.{Bool, true, false}
use mathlib.Core.List.{List, [], ◌∷◌, ◌++◌}
use Prim.Native.Nat.{ℕ, ◌+◌, ◌*◌, ◌≤◌, ◌<◌}
use native.Mathlib.Nat.{zero-add}
use native.Mathlib.Omega.{arith}
use lib.ListN.{length, get_or}
use lib.Dec.{T, leb}
use Rattle.columnar.specs.Row.{Row, null}
use Rattle.columnar.specs.Types.{Ty}
use Rattle.columnar.specs.Reading.{Column, read, read_all}
use Rattle.model.specs.Try.{Try, done, stop, then, guard}
use Rattle.model.specs.Grounds.{Counts, start_counts}
use Rattle.columns.specs.Grounds.{ceiling}
use Rattle.model.specs.Transform.{Destination, start, into_builder}
use Rattle.model.specs.Book.{Call}
use Rattle.model.specs.Held.{held}
use Rattle.model.proofs.Bits.{length_seg, get_d_seg}
use Rattle.model.proofs.Book.{counted_if}
use Rattle.model.proofs.Start.{held_start}
use Rattle.array_data.specs.Typed.{column_of}
use Rattle.columns.specs.Grounds.{lawful}
use Rattle.walk.specs.State as walk
use Rattle.plan.specs.parts.Parts.{nodes_of}
use Rattle.refinement.specs.orders.Order.{Lent}
use Rattle.refinement.specs.orders.Counted.{answer_room}
use Rattle.refinement.proofs.orders.Step.{Running}
use Rattle.refinement.proofs.orders.Booked.{ground_of}
use Rattle.refinement.proofs.opening.Opened.{Opened, orders_after}
use Rattle.refinement.specs.finishing.Finish.{finishing, length_table, null_table, place_table, buffer_table, buffers_before}
use Rattle.refinement.specs.finishing.Shows.{Shows, Bodied}
use Rattle.refinement.specs.finishing.Shows as shown
use Rattle.refinement.proofs.finishing.Orders.{appended}
use Rattle.trip.specs.Trip.{longest}
use Rattle.join.specs.Join.{Lending, Bytes, sources_in, tree_in, type_in, columns_in, keeps_in, opening_of, lent_of, after_calls, finished_of, book_of, reached_by}
use Rattle.join.specs.Items.{Item, one, trip, item_order, in_turn, item_answer, trip_place, after_items, next_item, next_place, grounds_items, finishing_items, tables_items, finished_items, held_items, answer_item, place_item, book_items, nulls_items, calls_carried}
use Rattle.join.proofs.Numbers.{Ordinary, number_among}
use Rattle.join.proofs.Opens.{runs}
use Rattle.join.proofs.Lengths.{held_is, book_is, nulls_by_lengths}
use Rattle.join.proofs.Shown.{bytes_at_lem, nulls_at_lem}
use Rattle.join.proofs.Demand2.{again_at, finishing_answered}
use Rattle.join.proofs.Demand3.{book_at, destination_length}
use Rattle.join.proofs.Items.{items_flat, RanItems, items_run, item_said, said_ground, trip_comes, comes_place, answers_to, item_keeps}

module _ (t : Ty) (keep : Bool) (m : ℕ) (ss : ℕ → Column t) (plan parts : List ℕ) where
  pub data OrdinaryTrip (g : ℕ) : Type 0 where
    of_order : Ordinary t keep m ss plan parts g → OrdinaryTrip g
    of_list : g ≡ 9 → OrdinaryTrip g

  turn_among : (os : List Call) (c : Counts) → Ordinary t keep m ss plan parts (ground_of (in_turn plan parts t keep m ss os c))
  turn_among [] c = Rattle.join.proofs.Numbers.of_order (omega arith)
  turn_among (o ∷ os) c = go (answer_room plan parts t keep m ss o c) (number_among t keep m ss plan parts o c) (turn_among os)
    where
      go : (a : Try Counts) → Ordinary t keep m ss plan parts (ground_of a) → ((d : Counts) → Ordinary t keep m ss plan parts (ground_of (in_turn plan parts t keep m ss os d)))
          → Ordinary t keep m ss plan parts (ground_of (then a (in_turn plan parts t keep m ss os)))
      go (done d) h f = f d
      go (stop g) h f = h

  trip_among : (os : List Call) (c : Counts) → OrdinaryTrip (ground_of (item_answer plan parts t keep m ss (trip os) c))
  trip_among os c = go (leb (length os) longest)
    where
      go : (b : Bool) → OrdinaryTrip (ground_of (guard b 9 (in_turn plan parts t keep m ss os c)))
      go true = of_order (turn_among os c)
      go false = of_list refl

-- DEMAND 1: REFUSED, AN ITEM CHANGES NOTHING, whatever it is lent: `item-keeps` (Items.antt)

module _ (l : Lending) (b : Bytes l) (accepted : (opening_of l).refusal ≡ 0) (is : List Item) where
  abbrev opens : Opened l.formats l.schema l.sources l.tables l.keep l.gaps l.parts (opening_of l)
  opens = runs l b accepted

  abbrev first : Destination (type_in l)
  first = start l.gaps (type_in l) l.keep (sources_in l) (columns_in l)

  ran : RanItems (lent_of l) (type_in l) (sources_in l) (columns_in l) opens.join (keeps_in l) (opening_of l).counters opens.memory is (start_counts l.gaps (type_in l)) (opening_of l).counters (opening_of l).room
  ran =
      subst (λ c. RanItems (lent_of l) (type_in l) (sources_in l) (columns_in l) opens.join (keeps_in l) (opening_of l).counters opens.memory is c (opening_of l).counters (opening_of l).room)
      (held_start l.gaps (type_in l) (keeps_in l) (sources_in l) (λ j. (columns_in l j).body))
      (items_run (lent_of l) (type_in l) (sources_in l) (columns_in l) opens.join (keeps_in l) (opening_of l).counters opens.memory is first (opening_of l).counters (opening_of l).room opens.running)

  -- THE COUNTERS AND THE ROOM are those of the orders that are carried out, each given singly: "an accepted list counts as its single orders"
  pub items_counters : (after_items l is).counters ≡ (after_calls l (calls_carried l is)).counters
  items_counters = ran.same_counters

  pub items_room : (after_items l is).room ≡ (after_calls l (calls_carried l is)).room
  items_room = ran.same_room

  -- what holds of these orders holds of the items
  moved : (P : List ℕ → List ℕ → Type 0) → P (after_calls l (calls_carried l is)).counters (after_calls l (calls_carried l is)).room → P (after_items l is).counters (after_items l is).room
  moved P h = subst (λ c. P c (after_items l is).room) (sym items_counters) (subst (P (after_calls l (calls_carried l is)).counters) (sym items_room) h)

  -- ---- demand 1: the answers

  abbrev Holding : Destination (type_in l) → List ℕ → List ℕ → Type 0
  Holding = Running (lent_of l) (type_in l) (sources_in l) (columns_in l) opens.join (keeps_in l) (opening_of l).counters opens.memory

  running : Holding (reached_by l (calls_carried l is)) (after_items l is).counters (after_items l is).room
  running = moved (Holding (reached_by l (calls_carried l is))) (orders_after l.formats l.schema l.sources l.tables l.keep l.gaps l.parts (opening_of l) opens (calls_carried l is)).running

  items_held_lem : held (type_in l) (reached_by l (calls_carried l is)) ≡ held_items l is
  items_held_lem = held_is l b accepted (calls_carried l is) ∙ sym (items_flat (lent_of l).plan l.parts (type_in l) (keeps_in l) (sources_in l) (columns_in l) is (start_counts l.gaps (type_in l))).flat_held

  -- THE ANSWER TO ONE MORE ITEM is 0 where no ground stands, else the number that the first failing order would get, by lengths and limits alone
  pub item_answered : (i : Item) → (next_item l is i).refusal ≡ ground_of (answer_item l is i)
  item_answered i =
      said_ground (lent_of l) (type_in l) (sources_in l) (columns_in l) opens.join (keeps_in l) (opening_of l).counters opens.memory
      (item_said (lent_of l) (type_in l) (sources_in l) (columns_in l) opens.join (keeps_in l) (opening_of l).counters opens.memory (reached_by l (calls_carried l is)) (after_items l is).counters (after_items l is).room running i)
      ∙ ap (λ c. ground_of (item_answer (lent_of l).plan l.parts (type_in l) (keeps_in l) (sources_in l) (columns_in l) i c)) items_held_lem

  -- .. AND THE PLACE of that order
  pub trip_placed : (os : List Call) → next_place l is os ≡ place_item l is os
  trip_placed os =
      comes_place (lent_of l) (type_in l) (sources_in l) (columns_in l) opens.join (keeps_in l) (opening_of l).counters opens.memory
      (trip_comes (lent_of l) (type_in l) (sources_in l) (columns_in l) opens.join (keeps_in l) (opening_of l).counters opens.memory (reached_by l (calls_carried l is)) (after_items l is).counters (after_items l is).room running os)
      ∙ ap (trip_place (lent_of l).plan l.parts (type_in l) (keeps_in l) (sources_in l) (columns_in l) os) items_held_lem

  -- THE TESTS FOR FOREIGN MEMORY NEVER FIRE: the answer to a trip is 0 to 7, 13, or 9 where it is too long
  pub trip_never_foreign : (os : List Call) → OrdinaryTrip (type_in l) (keeps_in l) (sources_in l) (columns_in l) (lent_of l).plan l.parts (next_item l is (trip os)).refusal
  trip_never_foreign os =
      subst (OrdinaryTrip (type_in l) (keeps_in l) (sources_in l) (columns_in l) (lent_of l).plan l.parts) (sym (item_answered (trip os)))
      (trip_among (type_in l) (keeps_in l) (sources_in l) (columns_in l) (lent_of l).plan l.parts os (held_items l is))

  -- the answers to the whole list
  pub items_answered : grounds_items l is ≡ answers_to (lent_of l).plan l.parts (type_in l) (keeps_in l) (sources_in l) (columns_in l) is (start_counts l.gaps (type_in l))
  items_answered = ran.same_answers

  -- ---- demand 2: over any body z in which the room stands from `base` on and the sources' body where it was

  module _ (base : ℕ) (z : List ℕ) (laid : Bodied z (lent_of l) (after_items l is).room base) where
    before : Bodied z (lent_of l) (after_calls l (calls_carried l is)).room base
    before = subst (λ r. Bodied z (lent_of l) r base) items_room laid

    -- THE BYTES, LENGTHS AND VALIDITY are those that the Rust makes of the orders that are carried out
    pub items_bytes : Shows (tree_in l) (tables_items l is base z) (type_in l) 0 (into_builder (type_in l) (sources_in l) (columns_in l) (reached_by l (calls_carried l is)))
    items_bytes =
        moved (λ c r. Shows (tree_in l) (shown.finished_tables (lent_of l) l.tables.buffers c r base z) (type_in l) 0 (into_builder (type_in l) (sources_in l) (columns_in l) (reached_by l (calls_carried l is))))
        (bytes_at_lem l b accepted (calls_carried l is) base z before)

    -- THE NULL COUNTS of every node are those of its finished bits
    pub items_nulls_lem : shown.Counts (tree_in l) (null_table (lent_of l) l.tables.buffers (after_items l is).counters (after_items l is).room base) (type_in l) 0 (into_builder (type_in l) (sources_in l) (columns_in l) (reached_by l (calls_carried l is)))
    items_nulls_lem =
        moved (λ c r. shown.Counts (tree_in l) (null_table (lent_of l) l.tables.buffers c r base) (type_in l) 0 (into_builder (type_in l) (sources_in l) (columns_in l) (reached_by l (calls_carried l is))))
        (nulls_at_lem l b accepted (calls_carried l is) base z before)

    -- LENT AGAIN, it passes ground 12
    pub items_again : T (lawful (tree_in l) (tables_items l is base z) (type_in l))
    items_again = moved (λ c r. T (lawful (tree_in l) (shown.finished_tables (lent_of l) l.tables.buffers c r base z) (type_in l))) (again_at l b accepted (calls_carried l is) base z before)

  -- THE RUNNING NULL COUNT is that of the orders that are carried out
  pub items_running_nulls : walk.nulls (after_items l is).counters 0 ≡ counted_if (keeps_in l) (nulls_items l is)
  items_running_nulls =
      ap (λ c. walk.nulls c 0) items_counters
      ∙ nulls_by_lengths l b accepted (calls_carried l is)
      ∙ ap (counted_if (keeps_in l)) (sym (items_flat (lent_of l).plan l.parts (type_in l) (keeps_in l) (sources_in l) (columns_in l) is (start_counts l.gaps (type_in l))).flat_nulls)

  -- FINISHING IS NEVER REFUSED where the tables are of the finished array's lengths and the room begins within a body's ceiling
  pub items_finishing : (base : ℕ) (lengths nulls places names : List ℕ) → base ≤ ceiling
      → length lengths ≡ 2 * nodes_of (lent_of l).plan → length nulls ≡ nodes_of (lent_of l).plan → length places ≡ 9 * nodes_of (lent_of l).plan
      → length names ≡ 2 * buffers_before (lent_of l) l.tables.buffers (after_items l is).counters (after_items l is).room base (nodes_of (lent_of l).plan)
      → finishing_items l is base lengths nulls places names
      ≡ record {
        refusal = 0;
        lengths = length_table (lent_of l) l.tables.buffers (after_items l is).counters (after_items l is).room base;
        nulls = null_table (lent_of l) l.tables.buffers (after_items l is).counters (after_items l is).room base;
        places = place_table (lent_of l) l.tables.buffers (after_items l is).counters (after_items l is).room base;
        buffers = buffer_table (lent_of l) l.tables.buffers (after_items l is).counters (after_items l is).room base;
      }
  items_finishing base lengths nulls places names =
      moved
      (λ c r.
      base ≤ ceiling
      → length lengths ≡ 2 * nodes_of (lent_of l).plan → length nulls ≡ nodes_of (lent_of l).plan → length places ≡ 9 * nodes_of (lent_of l).plan
      → length names ≡ 2 * buffers_before (lent_of l) l.tables.buffers c r base (nodes_of (lent_of l).plan)
      → finishing (lent_of l) l.tables.buffers c r base lengths nulls places names
      ≡ record {
        refusal = 0;
        lengths = length_table (lent_of l) l.tables.buffers c r base;
        nulls = null_table (lent_of l) l.tables.buffers c r base;
        places = place_table (lent_of l) l.tables.buffers c r base;
        buffers = buffer_table (lent_of l) l.tables.buffers c r base;
      })
      (finishing_answered l b accepted (calls_carried l is) base lengths nulls places names)

  -- ---- demand 3

  same_book : book_of l (calls_carried l is) ≡ book_items l is
  same_book = sym (items_flat (lent_of l).plan l.parts (type_in l) (keeps_in l) (sources_in l) (columns_in l) is (start_counts l.gaps (type_in l))).flat_rows

  -- THE BOOK: the finished array has its rows, all of them and no others, over any such body
  pub items_book_at : (base : ℕ) (z : List ℕ) → Bodied z (lent_of l) (after_items l is).room base
      → read_all (type_in l) (column_of (tree_in l) (tables_items l is base z) (type_in l) 0) ≡ book_items l is
  items_book_at base z laid =
      moved (λ c r. read_all (type_in l) (column_of (tree_in l) (shown.finished_tables (lent_of l) l.tables.buffers c r base z) (type_in l) 0) ≡ book_items l is)
      (book_at l b accepted (calls_carried l is) base z (before base z laid) ∙ book_is l b accepted (calls_carried l is) ∙ same_book)

  -- .. and so over the sources' body with the room behind it
  pub items_book_lem : read_all (type_in l) (finished_items l is) ≡ book_items l is
  items_book_lem = items_book_at (length l.tables.body) _ (appended (lent_of l) (after_items l is).room)

  -- the finished array has the book's length
  pub items_length : (finished_items l is).len ≡ length (book_items l is)
  items_length = sym (length_seg (read (type_in l) (finished_items l is)) 0 (finished_items l is).len) ∙ ap length items_book_lem

  -- and so has the destination, after every item
  pub items_destination : walk.rows (after_items l is).counters 0 ≡ length (book_items l is)
  items_destination = ap (λ c. walk.rows c 0) items_counters ∙ destination_length l b accepted (calls_carried l is) ∙ ap length (book_is l b accepted (calls_carried l is) ∙ same_book)

  -- its row i reads as entry i
  pub items_row : (i : ℕ) → i < (finished_items l is).len → read (type_in l) (finished_items l is) i ≡ get_or (book_items l is) i null
  items_row i q =
      ap (read (type_in l) (finished_items l is)) (sym (zero-add i))
      ∙ sym (get_d_seg (read (type_in l) (finished_items l is)) 0 (finished_items l is).len i null q)
      ∙ ap (λ r. get_or r i null) items_book_lem
