-- Ground 13 and the book by lengths alone (01: "a part can't hold its bytes after the call, validity dropped later included"; "fed the
-- calls alone, each order accepted or refused as demand 1 says"). No buffer of a destination is looked at. Assumes nothing.
use Rattle.std.specs.Prelude.{◌≡◌, Bool, true, not, cond, ◌&&◌, List, [], ◌∷◌, ◌++◌, ℕ, suc, ◌+◌, ◌*◌, ◌/◌, leb, eqb}
use Rattle.columnar.specs.Row.{Row}
use Rattle.columnar.specs.Types.{width, Plain, fixed, string, Ty, t_plain, t_view, t_list_view, t_list, t_sparse, t_dense, t_run_end, t_dictionary}
use Rattle.columnar.specs.Reading.{Column, masks}
use Rattle.columnar.specs.Test.{each}
use Rattle.model.specs.Try.{Try, done, stop, then, guard, after}
use Rattle.model.specs.Grounds.{Counts, rows_of, bytes_of, kid_of}
use Rattle.model.specs.Book.{Call, answer, entered, nulls_entered}
use Rattle.walk.specs.State.{keeps_of}
use Rattle.refinement.specs.walk_is_model.Holds.{child_of}
use Rattle.plan.specs.parts.Parts.{size_of}

-- the bytes of each buffer of a node that holds this much, in the format's order
abbrev pub plain_sizes : Plain → Counts → List ℕ
plain_sizes (fixed n) c = rows_of c * width n ∷ []
plain_sizes (string w) c = suc (rows_of c) * w ∷ bytes_of c ∷ []  -- one offset more than rows

abbrev pub sizes_of : Ty → Counts → List ℕ
sizes_of (t_plain p) c = plain_sizes p c
sizes_of t_view c = rows_of c * 16 ∷ []
sizes_of (t_list_view w t) c = rows_of c * w ∷ rows_of c * w ∷ []
sizes_of (t_list w t) c = suc (rows_of c) * w ∷ []
sizes_of (t_sparse ids nullable f) c = rows_of c ∷ []
sizes_of (t_dense ids nullable f) c = rows_of c ∷ rows_of c * 4 ∷ []
sizes_of (t_run_end w t) c = []
sizes_of (t_dictionary n p) c = rows_of c * width n ∷ []

module _ (plan parts : List ℕ) where
  -- a bit for each row, where the node keeps nulls and has validity
  abbrev pub room_bits : ℕ → Bool → ℕ → Bool
  room_bits i masks n = cond (masks && not (eqb (keeps_of plan i) 0)) (leb ((n + 7) / 8) (size_of plan parts i 0)) true

  -- buffers number b + 1, b + 2, .. of node i
  abbrev pub room_all : ℕ → ℕ → List ℕ → Bool
  room_all i b [] = true
  room_all i b (n ∷ ns) = leb n (size_of plan parts i (suc b)) && room_all i (suc b) ns

  abbrev pub room_node : ℕ → Ty → Bool → Counts → Bool
  room_node i t below c = room_bits i (masks t) (rows_of c) && room_all i 0 (sizes_of t c) && below

  -- the nodes below node i; a run-end node has as many run ends as values
  abbrev pub room_below : (t : Ty) → ℕ → Counts → Bool
  room_below (t_plain p) i c = true
  room_below t_view i c = true
  room_below (t_list_view w t) i c = room_node (suc i) t (room_below t (suc i) (kid_of c 0)) (kid_of c 0)
  room_below (t_list w t) i c = room_node (suc i) t (room_below t (suc i) (kid_of c 0)) (kid_of c 0)
  room_below (t_sparse ids nullable f) i c = each (λ e. room_node (child_of plan i e) (f e) (room_below (f e) (child_of plan i e) (kid_of c e)) (kid_of c e)) ids
  room_below (t_dense ids nullable f) i c = each (λ e. room_node (child_of plan i e) (f e) (room_below (f e) (child_of plan i e) (kid_of c e)) (kid_of c e)) ids
  room_below (t_run_end w t) i c =
      leb (rows_of (kid_of c 0) * w) (size_of plan parts (suc i) 1) && room_node (suc (suc i)) t (room_below t (suc (suc i)) (kid_of c 0)) (kid_of c 0)
  room_below (t_dictionary n p) i c = true

  -- THE PARTS HAVE ROOM for what is held from node i on
  abbrev pub room_for : Ty → ℕ → Counts → Bool
  room_for t i c = room_node i t (room_below t i c) c

  module _ (t : Ty) (keep : Bool) (m : ℕ) (ss : ℕ → Column t) where
    -- THE ANSWER TO A CALL, in 01's order: "1, 2, then as the Rust meets them .., 13 last", "3, count 0 accepted, then .., 13 last"
    abbrev pub answer_room : Call → Counts → Try Counts
    answer_room o c = then (answer t keep m ss o c) (λ c'. guard (room_for t 0 c') 13 (done c'))

    -- what is held after any list of calls; a refused one changes nothing
    abbrev pub counts_after : List Call → Counts → Counts
    counts_after [] c = c
    counts_after (o ∷ os) c = counts_after os (after (answer_room o c) c)

    -- THE BOOK: "An accepted copy appends its source's rows start to end − 1, an accepted null order its count of ordered nulls; a
    -- refused one adds nothing"
    abbrev pub book_room : List Call → Counts → List Row
    book_room [] c = []
    book_room (o ∷ os) c = elim (answer_room o c) [ done c' ↦ entered t keep m ss o ++ book_room os c' | stop g ↦ book_room os c ]

    -- .. or fed the calls with what each was answered
    abbrev pub book_by : List Call → List ℕ → List Row
    book_by [] gs = []
    book_by (o ∷ os) [] = []
    book_by (o ∷ os) (g ∷ gs) = cond (eqb g 0) (entered t keep m ss o) [] ++ book_by os gs

    -- "The running null count counts each null order in full"; a refused order counts nothing
    abbrev pub nulls_room : List Call → Counts → ℕ
    nulls_room [] c = 0
    nulls_room (o ∷ os) c = elim (answer_room o c) [ done c' ↦ nulls_entered t keep m ss o + nulls_room os c' | stop g ↦ nulls_room os c ]

    -- the calls of a list that are accepted
    abbrev pub accepted_room : List Call → Counts → List Call
    accepted_room [] c = []
    accepted_room (o ∷ os) c = elim (answer_room o c) [ done c' ↦ o ∷ accepted_room os c' | stop g ↦ accepted_room os c ]

    -- every call of a list is accepted
    abbrev pub AllAcceptedRoom : List Call → Counts → Type 0
    AllAcceptedRoom [] c = Unit {0}
    AllAcceptedRoom (o ∷ os) c = elim (answer_room o c) [ done c' ↦ AllAcceptedRoom os c' | stop g ↦ ⊥ ]

    -- "room is enough where neither 13 nor 14 stands": no call of a list is refused by 13
    abbrev pub RoomEnough : List Call → Counts → Type 0
    RoomEnough [] c = Unit {0}
    RoomEnough (o ∷ os) c = (answer_room o c ≡ stop 13 → ⊥) × RoomEnough os (after (answer_room o c) c)
