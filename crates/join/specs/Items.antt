-- A WHOLE JOIN WITH TRIPS: an opening, any list of single orders and of trips (trip/specs/Trip.antt), finishing. "In demand 3 an accepted list
-- counts as its single orders, a refused one as one refused order." Assumes nothing.
use Rattle.std.specs.Prelude.{Bool, cond, List, [], ◌∷◌, ◌++◌, ℕ, suc, ◌+◌, length, leb}
use Rattle.columnar.specs.Row.{Row}
use Rattle.columnar.specs.Types.{Ty}
use Rattle.columnar.specs.Reading.{Column}
use Rattle.model.specs.Try.{Try, done, stop, then, guard, after}
use Rattle.model.specs.Grounds.{Counts, start_counts}
use Rattle.model.specs.Book.{Call, entered, nulls_entered}
use Rattle.array_data.specs.Tables.{Tables}
use Rattle.array_data.specs.Typed.{column_of}
use Rattle.refinement.specs.orders.Order.{After, Lent, ordered}
use Rattle.refinement.specs.orders.Counted.{answer_room}
use Rattle.trip.specs.Trip.{longest, trip_order}
use Rattle.refinement.specs.finishing.Finish.{Finished, finishing}
use Rattle.refinement.specs.finishing.Shows.{finished_tables}
use Rattle.join.specs.Join.{Lending, sources_in, tree_in, type_in, columns_in, keeps_in, opening_of, lent_of}

-- what a caller gives: an order, or a list of orders as one
pub data Item : Type 0 where
  one : Call → Item
  trip : List Call → Item

-- the orders in it
abbrev pub calls_in : Item → List Call
calls_in (one o) = o ∷ []
calls_in (trip os) = os

-- ---- on lent memory

module _ (x : Lent) where
  abbrev pub item_order : List ℕ → List ℕ → Item → After
  item_order c r (one o) = ordered x c r o
  item_order c r (trip os) = record { refusal = (trip_order x c r os).refusal; counters = (trip_order x c r os).counters; room = (trip_order x c r os).room }

  -- ANY LIST OF ITEMS, each getting counters and room as the last one left them
  unfoldable pub items_all : List ℕ → List ℕ → List Item → After
  items_all c r [] = record { refusal = 0; counters = c; room = r }
  items_all c r (i ∷ is) = items_all (item_order c r i).counters (item_order c r i).room is

  -- one number for each
  unfoldable pub item_grounds : List ℕ → List ℕ → List Item → List ℕ
  item_grounds c r [] = []
  item_grounds c r (i ∷ is) = (item_order c r i).refusal ∷ item_grounds (item_order c r i).counters (item_order c r i).room is

-- ---- by lengths alone

-- the rows and the nulls of orders
module _ (t : Ty) (keep : Bool) (m : ℕ) (ss : ℕ → Column t) where
  abbrev pub entered_all : List Call → List Row
  entered_all [] = []
  entered_all (o ∷ os) = entered t keep m ss o ++ entered_all os

  abbrev pub nulls_all : List Call → ℕ
  nulls_all [] = 0
  nulls_all (o ∷ os) = nulls_entered t keep m ss o + nulls_all os

module _ (plan parts : List ℕ) (t : Ty) (keep : Bool) (m : ℕ) (ss : ℕ → Column t) where
  -- each order in turn, up to the first that is refused
  abbrev pub in_turn : List Call → Counts → Try Counts
  in_turn [] c = done c
  in_turn (o ∷ os) c = then (answer_room plan parts t keep m ss o c) (in_turn os)

  -- its place, from number k on
  abbrev pub place_in : List Call → ℕ → Counts → ℕ
  place_in [] k c = 0
  place_in (o ∷ os) k c = elim (answer_room plan parts t keep m ss o c) [ done c' ↦ place_in os (suc k) c' | stop g ↦ k ]

  -- THE ANSWER TO AN ITEM: "with 9, place 0, a list longer than 256 before anything else"
  abbrev pub item_answer : Item → Counts → Try Counts
  item_answer (one o) c = answer_room plan parts t keep m ss o c
  item_answer (trip os) c = guard (leb (length os) longest) 9 (in_turn os c)

  abbrev pub trip_place : List Call → Counts → ℕ
  trip_place os c = cond (leb (length os) longest) (place_in os 0 c) 0

  -- what is held after any list of items; a refused one changes nothing
  abbrev pub items_held : List Item → Counts → Counts
  items_held [] c = c
  items_held (i ∷ is) c = items_held is (after (item_answer i c) c)

  -- THE BOOK: "an accepted list counts as its single orders, a refused one as one refused order", which adds nothing
  abbrev pub items_book : List Item → Counts → List Row
  items_book [] c = []
  items_book (i ∷ is) c = elim (item_answer i c) [ done c' ↦ entered_all t keep m ss (calls_in i) ++ items_book is c' | stop g ↦ items_book is c ]

  abbrev pub items_nulls : List Item → Counts → ℕ
  items_nulls [] c = 0
  items_nulls (i ∷ is) c = elim (item_answer i c) [ done c' ↦ nulls_all t keep m ss (calls_in i) + items_nulls is c' | stop g ↦ items_nulls is c ]

  -- the orders that are carried out, one after the other
  abbrev pub carried_calls : List Item → Counts → List Call
  carried_calls [] c = []
  carried_calls (i ∷ is) c = elim (item_answer i c) [ done c' ↦ calls_in i ++ carried_calls is c' | stop g ↦ carried_calls is c ]

  -- the items that are accepted
  abbrev pub accepted_items : List Item → Counts → List Item
  accepted_items [] c = []
  accepted_items (i ∷ is) c = elim (item_answer i c) [ done c' ↦ i ∷ accepted_items is c' | stop g ↦ accepted_items is c ]

-- ---- a join's

module _ (l : Lending) where
  abbrev pub after_items : List Item → After
  after_items is = items_all (lent_of l) (opening_of l).counters (opening_of l).room is

  -- one item more
  abbrev pub next_item : List Item → Item → After
  next_item is i = item_order (lent_of l) (after_items is).counters (after_items is).room i

  -- the place of a trip that is refused
  abbrev pub next_place : List Item → List Call → ℕ
  next_place is os = (trip_order (lent_of l) (after_items is).counters (after_items is).room os).place

  abbrev pub grounds_items : List Item → List ℕ
  grounds_items is = item_grounds (lent_of l) (opening_of l).counters (opening_of l).room is

  -- finishing, and its tables over any body z in which the room stands from `base` on
  abbrev pub finishing_items : List Item → ℕ → List ℕ → List ℕ → List ℕ → List ℕ → Finished
  finishing_items is base lengths nulls places names = finishing (lent_of l) l.tables.buffers (after_items is).counters (after_items is).room base lengths nulls places names

  abbrev pub tables_items : List Item → ℕ → List ℕ → Tables
  tables_items is base z = finished_tables (lent_of l) l.tables.buffers (after_items is).counters (after_items is).room base z

  -- THE FINISHED ARRAY, over the sources' body with the room behind it
  abbrev pub finished_items : List Item → Column (type_in l)
  finished_items is = column_of (tree_in l) (tables_items is (length l.tables.body) (l.tables.body ++ (after_items is).room)) (type_in l) 0

  -- by lengths alone
  abbrev pub held_items : List Item → Counts
  held_items is = items_held (lent_of l).plan l.parts (type_in l) (keeps_in l) (sources_in l) (columns_in l) is (start_counts l.gaps (type_in l))

  abbrev pub answer_item : List Item → Item → Try Counts
  answer_item is i = item_answer (lent_of l).plan l.parts (type_in l) (keeps_in l) (sources_in l) (columns_in l) i (held_items is)

  abbrev pub place_item : List Item → List Call → ℕ
  place_item is os = trip_place (lent_of l).plan l.parts (type_in l) (keeps_in l) (sources_in l) (columns_in l) os (held_items is)

  abbrev pub book_items : List Item → List Row
  book_items is = items_book (lent_of l).plan l.parts (type_in l) (keeps_in l) (sources_in l) (columns_in l) is (start_counts l.gaps (type_in l))

  abbrev pub nulls_items : List Item → ℕ
  nulls_items is = items_nulls (lent_of l).plan l.parts (type_in l) (keeps_in l) (sources_in l) (columns_in l) is (start_counts l.gaps (type_in l))

  abbrev pub calls_carried : List Item → List Call
  calls_carried is = carried_calls (lent_of l).plan l.parts (type_in l) (keeps_in l) (sources_in l) (columns_in l) is (start_counts l.gaps (type_in l))

  abbrev pub items_accepted : List Item → List Item
  items_accepted is = accepted_items (lent_of l).plan l.parts (type_in l) (keeps_in l) (sources_in l) (columns_in l) is (start_counts l.gaps (type_in l))
