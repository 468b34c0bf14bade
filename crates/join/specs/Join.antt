-- A WHOLE JOIN as a caller makes it: an opening, any list of calls, finishing. Each step is what the contract of its entry point cites:
-- `opening` (try_with_capacities), `copyOrder` and `nullOrder` (try_extend, try_extend_nulls), `finishing` (into_builder). Assumes nothing.
use Rattle.std.specs.Prelude.{Bool, cond, ◌&&◌, ℕ, ◌+◌, ◌<◌, length, get_or, leb, eqb}
use mathlib.Core.List.{List, [], ◌∷◌, ◌++◌, foldr}
use Rattle.columnar.specs.Row.{Row}
use Rattle.columnar.specs.Types.{Ty}
use Rattle.columnar.specs.Reading.{Column}
use Rattle.model.specs.Try.{Try, done, stop, then, guard}
use Rattle.model.specs.Opening.{keeps}
use Rattle.model.specs.Grounds.{Counts, start_counts}
use Rattle.model.specs.Transform.{Destination, start}
use Rattle.model.specs.Book.{Call, entered, nulls_entered}
use Rattle.array_data.specs.Tables.{Tables}
use Rattle.array_data.specs.Typed.{Tree, tables_from, column_of}
use Rattle.array_data.specs.type_tree.Lent.{tree_of, type_of}
use Rattle.columns.specs.Grounds.{ceiling, sources_ground}
use Rattle.array_data.specs.Sources.{source_count, first_of, nodes_of}
use Rattle.refinement.specs.orders.Order.{After, Lent, ordered_all, ordered, grounds_of}
use Rattle.refinement.specs.orders.Fits.{fits, answer_in, answers_in}
use Rattle.refinement.specs.orders.Counted.{answer_room, counts_after, book_room, book_by, nulls_room, accepted_room, AllAcceptedRoom, RoomEnough}
use Rattle.refinement.specs.opening.Open.{Opening, opened, room_placed, opening}
use Rattle.refinement.specs.finishing.Finish.{Finished, tables_fit, finishing}
use Rattle.refinement.specs.finishing.Shows.{finished_tables}
use Rattle.join.specs.Openings.{data_opens}

-- WHAT A CALLER LENDS to an opening (docs/FORMAT.md), whether nulls are to be kept, and whether one run for a gap is chosen: a null order then
-- "lengthens the last run exactly if that run was itself written by an accepted null order and nothing but later null orders was added to that node since"
pub record Lending : Type 0 where
  pub formats : List ℕ
  pub schema : List ℕ
  pub sources : List ℕ
  pub tables : Tables
  pub keep : Bool
  pub gaps : Bool
  pub parts : List ℕ
  pub plan : List ℕ
  pub counters : List ℕ
  pub room : List ℕ

-- bodies are bytes; the entry points' types say so
pub record Bytes (l : Lending) : Type 0 where
  pub body_bytes : (k : ℕ) → get_or l.tables.body k 0 < 256
  pub room_bytes : (k : ℕ) → get_or l.room k 0 < 256

module _ (l : Lending) where
  -- ---- what is described: how many sources, their type tree, their type, and each one's column

  abbrev pub sources_in : ℕ
  sources_in = source_count l.sources

  abbrev pub tree_in : Tree
  tree_in = tree_of l.formats l.schema (first_of l.sources 0) (nodes_of l.sources 0)

  abbrev pub type_in : Ty
  type_in = type_of l.formats l.schema (first_of l.sources 0) (nodes_of l.sources 0)

  abbrev pub columns_in : ℕ → Column type_in
  columns_in s = column_of tree_in (tables_from l.tables (first_of l.sources s)) type_in 0

  -- "A node keeps nulls if the caller says so or any source has a null at that node": the root
  abbrev pub keeps_in : Bool
  keeps_in = keeps l.keep sources_in columns_in

  -- ---- the steps

  -- THE OPENING
  abbrev pub opening_of : Opening
  opening_of = opening l.formats l.schema l.sources l.tables l.keep l.gaps l.parts l.plan l.counters l.room

  -- what every call after it is lent: its plan, and the rest as it was
  abbrev pub lent_of : Lent
  lent_of = opened l.formats l.schema l.sources l.tables l.keep l.gaps l.parts

  -- ANY LIST OF CALLS, from the counters and the room that the opening leaves
  abbrev pub after_calls : List Call → After
  after_calls os = ordered_all lent_of opening_of.counters opening_of.room os

  -- one call more
  abbrev pub next_call : List Call → Call → After
  next_call os o = ordered lent_of (after_calls os).counters (after_calls os).room o

  -- what each of the calls is answered
  abbrev pub grounds_in : List Call → List ℕ
  grounds_in os = grounds_of lent_of opening_of.counters opening_of.room os

  -- FINISHING, into tables that are lent; the room begins at `base` of the body that they are about
  abbrev pub finishing_of : List Call → ℕ → List ℕ → List ℕ → List ℕ → List ℕ → Finished
  finishing_of os base lengths nulls places names = finishing lent_of l.tables.buffers (after_calls os).counters (after_calls os).room base lengths nulls places names

  -- its tables, over any body z in which the room stands from `base` on and the sources' body where it was (`Bodied`)
  abbrev pub tables_at : List Call → ℕ → List ℕ → Tables
  tables_at os base z = finished_tables lent_of l.tables.buffers (after_calls os).counters (after_calls os).room base z

  abbrev pub finished_at : List Call → ℕ → List ℕ → Column type_in
  finished_at os base z = column_of tree_in (tables_at os base z) type_in 0

  -- .. over the sources' body with the room behind it
  abbrev pub tables_of : List Call → Tables
  tables_of os = tables_at os (length l.tables.body) (l.tables.body ++ (after_calls os).room)

  -- THE FINISHED ARRAY
  abbrev pub finished_of : List Call → Column type_in
  finished_of os = finished_at os (length l.tables.body) (l.tables.body ++ (after_calls os).room)

  -- ---- what 01 says of them

  -- the model's destination with no rows
  abbrev pub first : Destination type_in
  first = start l.gaps type_in l.keep sources_in columns_in

  -- "Opening: 9, 10, 11, 12, 14, then per dictionary in tree order 6 (joining), 8, and 13 last"
  abbrev pub open_answer : Try (Destination type_in)
  open_answer =
      let g = sources_ground l.formats l.schema l.tables l.sources in
      guard (leb (length l.room) ceiling) 9
      (then (cond (eqb g 0) (done tt) (stop g))
      (λ (u : Unit {0}). guard (room_placed l.formats l.schema l.sources l.tables l.keep l.gaps l.parts l.plan l.counters l.room) 14
      (then (data_opens lent_of.plan l.parts sources_in type_in 0 (λ j. (columns_in j).body)) (λ b. guard (fits lent_of.plan l.parts type_in 0 first && b) 13 (done first)))))

  -- the model's destination after these calls; a refused one changes nothing (model/specs/Transform.antt follows the Rust)
  abbrev pub reached_by : List Call → Destination type_in
  reached_by os = answers_in lent_of.plan l.parts type_in sources_in columns_in os first

  -- THE ANSWER TO ONE MORE CALL: "Copy: 1, 2, then as the Rust meets them .., 13 last. Nulls: 3, count 0 accepted, then .., 13 last"
  abbrev pub answer_to : List Call → Call → Try (Destination type_in)
  answer_to os o = answer_in lent_of.plan l.parts type_in sources_in columns_in o (reached_by os)

  -- the calls of a list that are carried out, from a destination on
  abbrev pub carried_from : List Call → Destination type_in → List Call
  carried_from [] d = []
  carried_from (o ∷ os) d = elim (answer_in lent_of.plan l.parts type_in sources_in columns_in o d) [ done e ↦ o ∷ carried_from os e | stop g ↦ carried_from os d ]

  abbrev pub carried_out : List Call → List Call
  carried_out os = carried_from os first

  -- THE BOOK, "fed the calls alone, each order accepted or refused as demand 1 says"; "a refused one adds nothing"
  abbrev pub book : List Call → List Row
  book os = foldr (λ o rows. entered type_in keeps_in sources_in columns_in o ++ rows) [] (carried_out os)

  -- the nulls that the calls count
  abbrev pub nulls_booked : List Call → ℕ
  nulls_booked os = foldr (λ o n. nulls_entered type_in keeps_in sources_in columns_in o + n) 0 (carried_out os)

  -- ---- the same by lengths and limits alone, where no buffer of a destination is looked at (proofs/Lengths.antt)

  -- what is held after these calls
  abbrev pub held_after : List Call → Counts
  held_after os = counts_after lent_of.plan l.parts type_in keeps_in sources_in columns_in os (start_counts l.gaps type_in)

  -- the answer to one more call
  abbrev pub call_answer : List Call → Call → Try Counts
  call_answer os o = answer_room lent_of.plan l.parts type_in keeps_in sources_in columns_in o (held_after os)

  -- the book
  abbrev pub book_of : List Call → List Row
  book_of os = book_room lent_of.plan l.parts type_in keeps_in sources_in columns_in os (start_counts l.gaps type_in)

  -- .. or the calls with what each was answered
  abbrev pub book_answered : List Call → List ℕ → List Row
  book_answered = book_by lent_of.plan l.parts type_in keeps_in sources_in columns_in

  -- the nulls that the calls count
  abbrev pub nulls_of : List Call → ℕ
  nulls_of os = nulls_room lent_of.plan l.parts type_in keeps_in sources_in columns_in os (start_counts l.gaps type_in)

  -- the calls that are accepted, whether all of a list are, and whether room is enough for them
  abbrev pub accepted_of : List Call → List Call
  accepted_of os = accepted_room lent_of.plan l.parts type_in keeps_in sources_in columns_in os (start_counts l.gaps type_in)

  abbrev pub AllAccepted : List Call → Type 0
  AllAccepted os = AllAcceptedRoom lent_of.plan l.parts type_in keeps_in sources_in columns_in os (start_counts l.gaps type_in)

  abbrev pub Enough : List Call → Type 0
  Enough os = RoomEnough lent_of.plan l.parts type_in keeps_in sources_in columns_in os (start_counts l.gaps type_in)
