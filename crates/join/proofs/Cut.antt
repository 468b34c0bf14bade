-- AN ORDER CUT IN TWO: the copies start .. middle and middle .. end of one source, both accepted with nothing between, against the copy
-- start .. end in their place. Assumes nothing.
use mathlib.Core.Path.{◌≡◌, refl, sym, ap, ap₂, subst, ◌∙◌}
use mathlib.Core.List.{List, [], ◌∷◌, ◌++◌, append_assoc}
use Prim.Native.Nat.{ℕ, ◌<◌}
use Rattle.columnar.specs.Reading.{read_all, Source}
use Rattle.model.specs.Try.{Try, done}
use Rattle.model.specs.Grounds.{Counts, start_counts}
use Rattle.model.specs.Transform.{Destination, start, into_builder}
use Rattle.model.specs.Book.{Call, copy}
use Rattle.model.specs.Orders.{perform}
use Rattle.model.specs.Held.{held}
use Rattle.model.specs.Cut.{outside, Cut, RunsCut, NoRuns, SameColumn}
use Rattle.model.proofs.CutTries.{done_is}
use Rattle.model.proofs.CutLess.{Led}
use Rattle.model.proofs.CutFinish.{perform_cut, runs_cut}
use Rattle.refinement.specs.orders.Counted.{answer_room, counts_after}
use Rattle.refinement.proofs.orders.Booked.{ground_of}
use Rattle.refinement.proofs.orders.Step.{Running, obeys}
use Rattle.refinement.proofs.orders.CutRoom.{answer_room_cut, book_cut}
use Rattle.refinement.proofs.orders.CutRun.{answers_behind, answers_one, carried_by, Carried, carried_out_lem}
use Rattle.refinement.proofs.opening.Opened.{Opened, orders_after}
use Rattle.join.specs.Join.{Lending, Bytes, sources_in, tree_in, type_in, columns_in, keeps_in, opening_of, lent_of, after_calls, next_call, tables_of, finished_of, held_after, call_answer, book_of, reached_by}
use Rattle.join.proofs.Opens.{runs}
use Rattle.join.proofs.Lengths.{held_is, call_by_lengths, book_is}
use Rattle.join.proofs.Shown.{finished_bytes}
use Rattle.join.proofs.Demand3.{the_book}
use Rattle.join.proofs.CutShown.{column_shown, runs_shown_lem}

-- after an accepted opening and any list of calls, refused ones included
module _ (l : Lending) (b : Bytes l) (accepted : (opening_of l).refusal ≡ 0) where
  abbrev opens : Opened l.formats l.schema l.sources l.tables l.keep l.gaps l.parts (opening_of l)
  opens = runs l b accepted

  abbrev first : Destination (type_in l)
  first = start l.gaps (type_in l) l.keep (sources_in l) (columns_in l)

  abbrev between : List Call → Type 0
  between os = Running (lent_of l) (type_in l) (sources_in l) (columns_in l) opens.join (keeps_in l) (opening_of l).counters opens.memory (reached_by l os) (after_calls l os).counters (after_calls l os).room

  running : (os : List Call) → between os
  running os = (orders_after l.formats l.schema l.sources l.tables l.keep l.gaps l.parts (opening_of l) opens os).running

  -- a call that is answered 0
  record Taken (os : List Call) (o : Call) : Type 0 where
    is : Carried (lent_of l) (type_in l) (sources_in l) (columns_in l) opens.join (keeps_in l) (opening_of l).counters opens.memory (reached_by l os) (after_calls l os).counters (after_calls l os).room (running os) o
    next : reached_by l (os ++ o ∷ []) ≡ is.reached
    counted : call_answer l os o ≡ done (held_after l (os ++ o ∷ []))

  taken : (os : List Call) (o : Call) → (next_call l os o).refusal ≡ 0 → Taken os o
  taken os o h =
      let c =
      carried_out_lem (lent_of l) (type_in l) (sources_in l) (columns_in l) opens.join (keeps_in l) (opening_of l).counters opens.memory (reached_by l os) (after_calls l os).counters (after_calls l os).room
      (running os) o h in
      let next : reached_by l (os ++ o ∷ []) ≡ c.reached =
      answers_behind (lent_of l).plan l.parts (type_in l) (sources_in l) (columns_in l) os (o ∷ []) first
      ∙ answers_one (lent_of l).plan l.parts (type_in l) (sources_in l) (columns_in l) o (reached_by l os) c.reached c.carried in
      record {
        is = c;
        next = next;
        counted =
            ap (answer_room (lent_of l).plan l.parts (type_in l) (keeps_in l) (sources_in l) (columns_in l) o) (sym (held_is l b accepted os))
            ∙ c.counted
            ∙ ap (λ d. done (held (type_in l) d)) (sym next)
            ∙ ap done (held_is l b accepted (os ++ o ∷ []));
      }

  -- .. and the model's step
  went : (os : List Call) (o : Call) → Taken os o → perform (type_in l) (sources_in l) (columns_in l) o (reached_by l os) ≡ done (reached_by l (os ++ o ∷ []))
  went os o h = carried_by (lent_of l).plan l.parts (type_in l) (sources_in l) (columns_in l) o (reached_by l os) _ (h.is.carried ∙ ap done (sym h.next))

  good : (j : ℕ) → j < sources_in l → Source (type_in l) (columns_in l j)
  good = obeys (lent_of l) (type_in l) (sources_in l) (columns_in l) opens.join

  -- the halves a .. k and k .. e are both answered 0, with nothing between
  module _ (os : List Call) (j a k e : ℕ) (one : (next_call l os (copy j a k)).refusal ≡ 0) (two : (next_call l (os ++ copy j a k ∷ []) (copy j k e)).refusal ≡ 0) where
    abbrev pub halves : List Call
    halves = os ++ copy j a k ∷ copy j k e ∷ []

    abbrev pub single : List Call
    single = os ++ copy j a e ∷ []

    in_two : (os ++ copy j a k ∷ []) ++ copy j k e ∷ [] ≡ halves
    in_two = append_assoc os (copy j a k ∷ []) (copy j k e ∷ [])

    left : Taken os (copy j a k)
    left = taken os (copy j a k) one

    right : Taken (os ++ copy j a k ∷ []) (copy j k e)
    right = taken (os ++ copy j a k ∷ []) (copy j k e) two

    right_counted : call_answer l (os ++ copy j a k ∷ []) (copy j k e) ≡ done (held_after l halves)
    right_counted = right.counted ∙ ap (λ z. done (held_after l z)) in_two

    led : Led (λ v. Cut (type_in l) outside v (held_after l halves)) (call_answer l os (copy j a e))
    led =
        answer_room_cut (lent_of l).plan l.parts (type_in l) (keeps_in l) (sources_in l) (columns_in l) good j a k e (held_after l os) (held_after l (os ++ copy j a k ∷ [])) (held_after l halves)
        left.counted right_counted

    -- THE SINGLE ORDER IS ACCEPTED: no ground stands, and its room is enough
    pub cut_accepted : (next_call l os (copy j a e)).refusal ≡ 0
    cut_accepted = call_by_lengths l b accepted os (copy j a e) ∙ ap ground_of led.is

    whole : Taken os (copy j a e)
    whole = taken os (copy j a e) cut_accepted

    -- NO NODE HOLDS MORE after it, and so no part needs more bytes
    pub cut_held : Cut (type_in l) outside (held_after l single) (held_after l halves)
    cut_held = subst (λ v. Cut (type_in l) outside v (held_after l halves)) (done_is (sym led.is ∙ whole.counted)) led.holds

    -- THE ROWS are the same: those of the book ..
    pub cut_book : book_of l halves ≡ book_of l single
    cut_book =
        book_cut (lent_of l).plan l.parts (type_in l) (keeps_in l) (sources_in l) (columns_in l) good os j a k e (start_counts l.gaps (type_in l)) (held_after l (os ++ copy j a k ∷ [])) (held_after l halves)
        left.counted right_counted

    -- .. and those of the finished arrays
    pub cut_rows : read_all (type_in l) (finished_of l halves) ≡ read_all (type_in l) (finished_of l single)
    cut_rows = the_book l b accepted halves ∙ book_is l b accepted halves ∙ cut_book ∙ sym (the_book l b accepted single ∙ book_is l b accepted single)

    -- EACH RUN-END NODE HAS AT MOST ONE RUN MORE, but for those below a list-view or list that itself stands below a run-end node
    pub cut_runs : RunsCut (type_in l) outside (finished_of l single).body (finished_of l halves).body
    cut_runs =
        runs_shown_lem (tree_in l) (tables_of l single) (tables_of l halves) (type_in l) outside 0 _ _ (finished_bytes l b accepted single).body_is (finished_bytes l b accepted halves).body_is
        (runs_cut (type_in l) outside (sources_in l) (columns_in l) (reached_by l single) (reached_by l halves) (running single).state.fine (running halves).state.fine
        (subst (λ v. Cut (type_in l) outside v (held (type_in l) (reached_by l halves))) (sym (held_is l b accepted single))
        (subst (Cut (type_in l) outside (held_after l single)) (sym (held_is l b accepted halves)) cut_held)))

    -- THE FINISHED BYTES ARE EQUAL where no run-end node is in the tree
    pub cut_bytes : NoRuns (type_in l) → SameColumn (type_in l) (finished_of l single) (finished_of l halves)
    cut_bytes none =
        let r =
        perform_cut (type_in l) (sources_in l) (columns_in l) none good j a k e (reached_by l os) (reached_by l (os ++ copy j a k ∷ [])) (reached_by l halves) (running os).state.fine
        (running (os ++ copy j a k ∷ [])).state.fine (went os (copy j a k) left)
        (went (os ++ copy j a k ∷ []) (copy j k e) right ∙ ap (λ z. done (reached_by l z)) in_two) in
        column_shown (tree_in l) (tables_of l single) (tables_of l halves) (type_in l) 0 _ _ (finished_bytes l b accepted single) (finished_bytes l b accepted halves)
        (subst (λ v. SameColumn (type_in l) (into_builder (type_in l) (sources_in l) (columns_in l) v) (into_builder (type_in l) (sources_in l) (columns_in l) (reached_by l halves)))
        (done_is (sym r.is ∙ went os (copy j a e) whole)) r.holds)
