-- THE DEMANDS BY LENGTHS AND LIMITS ALONE, where no buffer of a destination is looked at: the answers, the book, the calls that are carried out and the nulls
-- that they count are the same. Assumes nothing.
use mathlib.Core.Path.{◌≡◌, refl, sym, ap, subst, ◌∙◌}
use mathlib.Core.Bool.{Bool}
use mathlib.Core.List.{List, [], ◌∷◌, ◌++◌, foldr}
use Prim.Native.Nat.{ℕ, ◌+◌}
use native.Mathlib.Nat.{zero-add}
use Rattle.columnar.specs.Row.{Row}
use Rattle.columnar.specs.Types.{Ty}
use Rattle.columnar.specs.Reading.{Column}
use Rattle.model.specs.Try.{Try, done, stop, map_try}
use Rattle.model.specs.Grounds.{Counts, start_counts}
use Rattle.model.specs.Transform.{Destination}
use Rattle.model.specs.Book.{Call, entered, nulls_entered}
use Rattle.model.specs.Held.{held}
use Rattle.model.proofs.Book.{counted_if}
use Rattle.model.proofs.Start.{held_start}
use Rattle.walk.specs.State as walk
use Rattle.refinement.specs.orders.Order.{After}
use Rattle.refinement.specs.orders.Fits.{book_in}
use Rattle.refinement.specs.orders.Counted.{answer_room, counts_after, book_room, nulls_room, accepted_room}
use Rattle.refinement.proofs.orders.Step.{Running, Answers, made, not_made, order_step_lem}
use Rattle.refinement.proofs.orders.Booked.{ground_of, booked, booked_by, answer_is, ground_is}
use Rattle.refinement.proofs.opening.Opened.{Opened, orders_after}
use Rattle.join.specs.Join.{Lending, Bytes, sources_in, type_in, columns_in, keeps_in, opening_of, lent_of, after_calls, next_call, grounds_in, first, reached_by, carried_from, carried_out, book, nulls_booked, held_after, call_answer, book_of, book_answered, nulls_of, accepted_of}
use Rattle.join.proofs.Opens.{runs}

-- ---- the book and the nulls of a list of calls are those of its accepted calls

module _ (plan parts : List ℕ) (t : Ty) (keep : Bool) (m : ℕ) (ss : ℕ → Column t) where
  rows_accepted : (os : List Call) (c : Counts) → foldr (λ o rows. entered t keep m ss o ++ rows) [] (accepted_room plan parts t keep m ss os c) ≡ book_room plan parts t keep m ss os c
  rows_accepted [] c = refl
  rows_accepted (o ∷ os) c = go (answer_room plan parts t keep m ss o c) (rows_accepted os)
    where
      go : (a : Try Counts)
          → ((v : Counts) → foldr (λ o rows. entered t keep m ss o ++ rows) [] (accepted_room plan parts t keep m ss os v) ≡ book_room plan parts t keep m ss os v)
          → foldr {B = List Row} (λ o rows. entered t keep m ss o ++ rows) [] (elim a [ done v ↦ o ∷ accepted_room plan parts t keep m ss os v | stop g ↦ accepted_room plan parts t keep m ss os c ])
          ≡ (elim a [ done v ↦ entered t keep m ss o ++ book_room plan parts t keep m ss os v | stop g ↦ book_room plan parts t keep m ss os c ])
      go (done v) f = ap (entered t keep m ss o ++◌) (f v)
      go (stop g) f = f c

  nulls_accepted : (os : List Call) (c : Counts) → foldr (λ o n. nulls_entered t keep m ss o + n) 0 (accepted_room plan parts t keep m ss os c) ≡ nulls_room plan parts t keep m ss os c
  nulls_accepted [] c = refl
  nulls_accepted (o ∷ os) c = go (answer_room plan parts t keep m ss o c) (nulls_accepted os)
    where
      go : (a : Try Counts)
          → ((v : Counts) → foldr (λ o n. nulls_entered t keep m ss o + n) 0 (accepted_room plan parts t keep m ss os v) ≡ nulls_room plan parts t keep m ss os v)
          → foldr {B = ℕ} (λ o n. nulls_entered t keep m ss o + n) 0 (elim a [ done v ↦ o ∷ accepted_room plan parts t keep m ss os v | stop g ↦ accepted_room plan parts t keep m ss os c ])
          ≡ (elim a [ done v ↦ nulls_entered t keep m ss o + nulls_room plan parts t keep m ss os v | stop g ↦ nulls_room plan parts t keep m ss os c ])
      go (done v) f = ap (nulls_entered t keep m ss o +◌) (f v)
      go (stop g) f = f c

-- ---- after an accepted opening and any list of calls, refused ones included

module _ (l : Lending) (b : Bytes l) (accepted : (opening_of l).refusal ≡ 0) where
  abbrev opens : Opened l.formats l.schema l.sources l.tables l.keep l.gaps l.parts (opening_of l)
  opens = runs l b accepted

  abbrev Runs : Destination (type_in l) → List ℕ → List ℕ → Type 0
  Runs = Running (lent_of l) (type_in l) (sources_in l) (columns_in l) opens.join (keeps_in l) (opening_of l).counters opens.memory

  abbrev Room : List Call → Counts → List Call
  Room = accepted_room (lent_of l).plan l.parts (type_in l) (keeps_in l) (sources_in l) (columns_in l)

  starts : held (type_in l) (first l) ≡ start_counts l.gaps (type_in l)
  starts = held_start l.gaps (type_in l) (keeps_in l) (sources_in l) (λ j. (columns_in l j).body)

  carried_from_lem : (os : List Call) (d : Destination (type_in l)) (counters room : List ℕ) → Runs d counters room → carried_from l os d ≡ Room os (held (type_in l) d)
  carried_from_lem [] d counters room run = refl
  carried_from_lem (o ∷ os) d counters room run =
      go (order_step_lem (lent_of l) (type_in l) (sources_in l) (columns_in l) opens.join (keeps_in l) (opening_of l).counters opens.memory o d counters room run)
      (answer_is (lent_of l) (type_in l) (sources_in l) (columns_in l) opens.join (keeps_in l) (opening_of l).counters opens.memory d counters room run o) (carried_from_lem os)
    where
      go : {p : Try (Destination (type_in l))} {s : Try Counts} {a : After}
          → Answers (lent_of l) (type_in l) (sources_in l) (columns_in l) opens.join (keeps_in l) (opening_of l).counters opens.memory o d counters room p a → map_try (held (type_in l)) p ≡ s
          → ((e : Destination (type_in l)) (c r : List ℕ) → Runs e c r → carried_from l os e ≡ Room os (held (type_in l) e))
          → ◌≡◌ {A = List Call} (elim p [ done e ↦ o ∷ carried_from l os e | stop g ↦ carried_from l os d ])
          (elim s [ done v ↦ o ∷ Room os v | stop g ↦ Room os (held (type_in l) d) ])
      go (made e a z r did) q f =
          subst (λ (s : Try Counts). ◌≡◌ {A = List Call} (o ∷ carried_from l os e) (elim s [ done v ↦ o ∷ Room os v | stop g ↦ Room os (held (type_in l) d) ])) q
          (ap (o ∷◌) (f e a.counters a.room r))
      go (not_made g a z p c s) q f =
          subst (λ (s : Try Counts). ◌≡◌ {A = List Call} (carried_from l os d) (elim s [ done v ↦ o ∷ Room os v | stop g ↦ Room os (held (type_in l) d) ])) q (f d counters room run)

  module _ (os : List Call) where
    -- what the model holds, counted
    pub held_is : held (type_in l) (reached_by l os) ≡ held_after l os
    held_is =
        (booked (lent_of l) (type_in l) (sources_in l) (columns_in l) opens.join (keeps_in l) (opening_of l).counters opens.memory os (first l) (opening_of l).counters (opening_of l).room opens.running).held_booked
        ∙ ap (counts_after (lent_of l).plan l.parts (type_in l) (keeps_in l) (sources_in l) (columns_in l) os) starts

    -- THE ANSWER TO ONE MORE CALL
    pub call_by_lengths : (o : Call) → (next_call l os o).refusal ≡ ground_of (call_answer l os o)
    call_by_lengths o =
        ground_is (lent_of l) (type_in l) (sources_in l) (columns_in l) opens.join (keeps_in l) (opening_of l).counters opens.memory (reached_by l os) (after_calls l os).counters (after_calls l os).room
        (orders_after l.formats l.schema l.sources l.tables l.keep l.gaps l.parts (opening_of l) opens os).running o
        ∙ ap (λ c. ground_of (answer_room (lent_of l).plan l.parts (type_in l) (keeps_in l) (sources_in l) (columns_in l) o c)) held_is

    -- THE CALLS THAT ARE CARRIED OUT
    pub accepted_is : carried_out l os ≡ accepted_of l os
    accepted_is = carried_from_lem os (first l) (opening_of l).counters (opening_of l).room opens.running ∙ ap (Room os) starts

    -- THE BOOK
    pub book_is : book l os ≡ book_of l os
    book_is =
        ap (foldr (λ o rows. entered (type_in l) (keeps_in l) (sources_in l) (columns_in l) o ++ rows) []) accepted_is
        ∙ rows_accepted (lent_of l).plan l.parts (type_in l) (keeps_in l) (sources_in l) (columns_in l) os (start_counts l.gaps (type_in l))

    -- .. by the model, call by call
    pub in_book : book_in (lent_of l).plan l.parts (type_in l) (sources_in l) (columns_in l) (keeps_in l) os (first l) ≡ book_of l os
    in_book =
        (booked (lent_of l) (type_in l) (sources_in l) (columns_in l) opens.join (keeps_in l) (opening_of l).counters opens.memory os (first l) (opening_of l).counters (opening_of l).room opens.running).rows_booked
        ∙ ap (book_room (lent_of l).plan l.parts (type_in l) (keeps_in l) (sources_in l) (columns_in l) os) starts

    -- .. and by the answers which the entry points gave
    pub book_answered_lem : book_answered l os (grounds_in l os) ≡ book_of l os
    book_answered_lem =
        booked_by (lent_of l) (type_in l) (sources_in l) (columns_in l) opens.join (keeps_in l) (opening_of l).counters opens.memory os (first l) (opening_of l).counters (opening_of l).room opens.running
        ∙ in_book

    -- THE NULLS that the calls count, and the running null count by them
    pub nulls_is : nulls_booked l os ≡ nulls_of l os
    nulls_is =
        ap (foldr (λ o n. nulls_entered (type_in l) (keeps_in l) (sources_in l) (columns_in l) o + n) 0) accepted_is
        ∙ nulls_accepted (lent_of l).plan l.parts (type_in l) (keeps_in l) (sources_in l) (columns_in l) os (start_counts l.gaps (type_in l))

    pub nulls_by_lengths : walk.nulls (after_calls l os).counters 0 ≡ counted_if (keeps_in l) (nulls_of l os)
    nulls_by_lengths =
        (orders_after l.formats l.schema l.sources l.tables l.keep l.gaps l.parts (opening_of l) opens os).running.holds.nulls_are
        ∙ (booked (lent_of l) (type_in l) (sources_in l) (columns_in l) opens.join (keeps_in l) (opening_of l).counters opens.memory os (first l) (opening_of l).counters (opening_of l).room opens.running).nulls_booked_lem
        ∙ zero-add _
        ∙ ap (λ c. counted_if (keeps_in l) (nulls_room (lent_of l).plan l.parts (type_in l) (keeps_in l) (sources_in l) (columns_in l) os c)) starts
