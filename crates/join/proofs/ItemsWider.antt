-- STORING WIDER CHANGES NO ROW, over lists whose items are single orders and trips: the accepted items, made again over the same rows stored
-- wider, are all accepted where room is enough, and the rows are the same. Assumes nothing.
use mathlib.Core.Path.{◌≡◌, refl, sym, ap, ap₂, subst, ◌∙◌}
use mathlib.Core.Bool.{Bool, true, false}
use mathlib.Core.List.{List, [], ◌∷◌, ◌++◌}
use Prim.Native.Nat.{ℕ, ◌≤◌, ◌<◌}
use native.Mathlib.Omega.{arith}
use lib.ListN.{length, replicate}
use lib.Dec.{leb}
use Rattle.columnar.specs.Row.{Row}
use Rattle.columnar.specs.Types.{Ty}
use Rattle.columnar.specs.Reading.{Column, Source, read_all}
use Rattle.columnar.specs.Wider.{Wider, Again}
use Rattle.model.specs.Try.{Try, done, stop, then, guard, after}
use Rattle.model.specs.Grounds.{Counts, start_counts}
use Rattle.model.specs.Book.{Call, answer, entered}
use Rattle.model.proofs.WiderAnswers.{answer_wider, entered_wider}
use Rattle.refinement.specs.orders.Counted.{room_for, answer_room}
use Rattle.refinement.proofs.orders.Booked.{ground_of}
use Rattle.columns.specs.Grounds.{ceiling}
use Rattle.refinement.proofs.opening.Taken.{sources_of}
use Rattle.trip.specs.Trip.{longest}
use Rattle.join.specs.Join.{Lending, Bytes, sources_in, type_in, columns_in, keeps_in, opening_of, lent_of}
use Rattle.join.specs.Stored.{StoredWider}
use Rattle.join.specs.Items.{Item, one, trip, calls_in, in_turn, item_answer, entered_all, items_book, accepted_items, grounds_items, finished_items, book_items, items_accepted}
use Rattle.join.proofs.Opens.{runs}
use Rattle.join.proofs.Answered.{No13, AllZero}
use Rattle.join.proofs.WiderLengths.{moved, moved_back}
use Rattle.join.proofs.WiderNodes.{opens_again}
use Rattle.join.proofs.Items.{answers_to}
use Rattle.join.proofs.ItemsJoin.{items_answered, items_book_lem}

-- a call without 13 is one, and the other way round
without_room : (a : Try Counts) (room : Counts → Bool) (c' : Counts) → then a (λ c. guard (room c) 13 (done c)) ≡ done c' → a ≡ done c'
without_room (done c) room c' e = go (room c) e
  where
    go : (b : Bool) → guard b 13 (done c) ≡ done c' → done c ≡ done c'
    go true h = h
    go false h = absurd (let z : ◌≡◌ {A = ℕ} 0 1 = cc h in omega arith)
without_room (stop g) room c' e = absurd (let z : ◌≡◌ {A = ℕ} 0 1 = cc e in omega arith)

with_room : (a : Try Counts) (room : Counts → Bool) (c' : Counts) → a ≡ done c' → (ground_of (then a (λ c. guard (room c) 13 (done c))) ≡ 13 → ⊥) → then a (λ c. guard (room c) 13 (done c)) ≡ done c'
with_room (done c) room c' e n = go (room c) n
  where
    go : (b : Bool) → (ground_of (guard b 13 (done c)) ≡ 13 → ⊥) → guard b 13 (done c) ≡ done c'
    go true h = e
    go false h = absurd (h refl)
with_room (stop g) room c' e n = absurd (let z : ◌≡◌ {A = ℕ} 0 1 = cc e in omega arith)

module _ (plan parts plan' parts' : List ℕ) {t t' : Ty} (w : Wider t t') (m : ℕ) (ss : ℕ → Column t) (ss' : ℕ → Column t') (again : Again w m ss ss')
    (good : (j : ℕ) → j < m → Source t (ss j)) (keep : Bool) where
  abbrev narrow : Call → Counts → Try Counts
  narrow = answer_room plan parts t keep m ss

  abbrev wide : Call → Counts → Try Counts
  wide = answer_room plan' parts' t' keep m ss'

  call_again : (o : Call) (c c' : Counts) → narrow o c ≡ done c' → (ground_of (wide o c) ≡ 13 → ⊥) → wide o c ≡ done c'
  call_again o c c' e n =
      with_room (answer t' keep m ss' o c) (room_for plan' parts' t' 0) c'
      (answer_wider w m ss ss' again good keep o c c' (without_room (answer t keep m ss o c) (room_for plan parts t 0) c' e)) n

  call_entered : (o : Call) (c c' : Counts) → narrow o c ≡ done c' → entered t keep m ss o ≡ entered t' keep m ss' o
  call_entered o c c' e = entered_wider w m ss ss' again good keep o c c' (without_room (answer t keep m ss o c) (room_for plan parts t 0) c' e)

  abbrev turn : List Call → Counts → Try Counts
  turn = in_turn plan parts t keep m ss

  abbrev turn' : List Call → Counts → Try Counts
  turn' = in_turn plan' parts' t' keep m ss'

  -- orders in turn
  turn_again : (os : List Call) (c c' : Counts) → turn os c ≡ done c' → (ground_of (turn' os c) ≡ 13 → ⊥) → (turn' os c ≡ done c') × (entered_all t keep m ss os ≡ entered_all t' keep m ss' os)
  turn_again [] c c' e n = (e, refl)
  turn_again (o ∷ os) c c' e n = go (narrow o c) refl e (wide o c) refl n (λ d. turn_again os d c')
    where
      go : (a : Try Counts) → narrow o c ≡ a → then a (turn os) ≡ done c' → (a' : Try Counts) → wide o c ≡ a' → (ground_of (then a' (turn' os)) ≡ 13 → ⊥)
          → ((d : Counts) → turn os d ≡ done c' → (ground_of (turn' os d) ≡ 13 → ⊥) → (turn' os d ≡ done c') × (entered_all t keep m ss os ≡ entered_all t' keep m ss' os))
          → (then a' (turn' os) ≡ done c') × (entered t keep m ss o ++ entered_all t keep m ss os ≡ entered t' keep m ss' o ++ entered_all t' keep m ss' os)
      go (done d) q e (done d') q' n f =
          let z : d' ≡ d = cc (sym q' ∙ call_again o c d q (λ y. absurd (let v : ground_of (done d') ≡ 13 = ap ground_of (sym q') ∙ y in omega (arith, v)))) in
          let r = f d e (λ y. n (ap (λ v. ground_of (turn' os v)) z ∙ y)) in
          (ap (turn' os) z ∙ r.0, ap₂ ◌++◌ (call_entered o c d q) r.1)
      go (done d) q e (stop g) q' n f =
          let v : ◌≡◌ {A = Try Counts} (stop g) (done d) = sym q' ∙ call_again o c d q (λ y. n (ap ground_of (sym q') ∙ y)) in
          absurd (let z : ◌≡◌ {A = ℕ} 0 1 = cc v in omega arith)
      go (stop g) q e a' q' n f = absurd (let z : ◌≡◌ {A = ℕ} 0 1 = cc e in omega arith)

  abbrev ask : Item → Counts → Try Counts
  ask = item_answer plan parts t keep m ss

  abbrev ask' : Item → Counts → Try Counts
  ask' = item_answer plan' parts' t' keep m ss'

  -- an item
  item_again : (i : Item) (c c' : Counts) → ask i c ≡ done c' → (ground_of (ask' i c) ≡ 13 → ⊥) → (ask' i c ≡ done c') × (entered_all t keep m ss (calls_in i) ≡ entered_all t' keep m ss' (calls_in i))
  item_again (one o) c c' e n = (call_again o c c' e n, ap (◌++ []) (call_entered o c c' e))
  item_again (trip os) c c' e n = go (leb (length os) longest) e n
    where
      go : (b : Bool) → guard b 9 (turn os c) ≡ done c' → (ground_of (guard b 9 (turn' os c)) ≡ 13 → ⊥) → (guard b 9 (turn' os c) ≡ done c') × (entered_all t keep m ss os ≡ entered_all t' keep m ss' os)
      go true e n = turn_again os c c' e n
      go false e n = absurd (let z : ◌≡◌ {A = ℕ} 0 1 = cc e in omega arith)

  abbrev taken : List Item → Counts → List Item
  taken = accepted_items plan parts t keep m ss

  abbrev answers' : List Item → Counts → List ℕ
  answers' = answers_to plan' parts' t' keep m ss'

  record Again-made (c : Counts) (made : List Item) (rows : List Row) : Type 0 where
    zeros : AllZero (answers' made c)
    same_rows : rows ≡ items_book plan' parts' t' keep m ss' made c

  -- ALL ARE ACCEPTED AGAIN, and the book has the same rows
  items_again : (is : List Item) (c : Counts) → No13 (answers' (taken is c) c) → Again-made c (taken is c) (items_book plan parts t keep m ss is c)
  items_again [] c n = record { zeros = refl; same_rows = refl }
  items_again (i ∷ is) c n = go (ask i c) refl n (items_again is)
    where
      onward : (d : Counts) (a : Try Counts) → a ≡ done d → Again-made d (taken is d) (items_book plan parts t keep m ss is d) → entered_all t keep m ss (calls_in i) ≡ entered_all t' keep m ss' (calls_in i)
          → AllZero (ground_of a ∷ answers' (taken is d) (after a c))
          × (◌≡◌ {A = List Row} (entered_all t keep m ss (calls_in i) ++ items_book plan parts t keep m ss is d)
          (elim a [ done c' ↦ entered_all t' keep m ss' (calls_in i) ++ items_book plan' parts' t' keep m ss' (taken is d) c' | stop g ↦ items_book plan' parts' t' keep m ss' (taken is d) c ]))
      onward d (done c') e r s = let z : c' ≡ d = cc e in rw z (ap (0 ∷◌) r.zeros, ap₂ ◌++◌ s r.same_rows)
      onward d (stop g) e r s = absurd (let z : ◌≡◌ {A = ℕ} 0 1 = cc e in omega arith)

      go : (a : Try Counts) → ask i c ≡ a → No13 (answers' (elim a [ done c' ↦ i ∷ taken is c' | stop g ↦ taken is c ]) c)
          → ((d : Counts) → No13 (answers' (taken is d) d) → Again-made d (taken is d) (items_book plan parts t keep m ss is d))
          → Again-made c (elim a [ done c' ↦ i ∷ taken is c' | stop g ↦ taken is c ])
          (elim a [ done c' ↦ entered_all t keep m ss (calls_in i) ++ items_book plan parts t keep m ss is c' | stop g ↦ items_book plan parts t keep m ss is c ])
      go (done d) e n f =
          let q = item_again i c d e n.0 in
          let r = onward d (ask' i c) q.0 (f d (subst (λ (a : Try Counts). No13 (answers' (taken is d) (after a c))) q.0 n.1)) q.1 in
          record { zeros = r.0; same_rows = r.1 }
      go (stop g) e n f = let r = f c n in record { zeros = r.zeros; same_rows = r.same_rows }

-- ---- two joins, narrow and wide

module _ (n w : Lending) (bytes_n : Bytes n) (bytes_w : Bytes w) (accepted_n : (opening_of n).refusal ≡ 0) (accepted-w : (opening_of w).refusal ≡ 0)
    (d : Wider (type_in n) (type_in w)) (same_count : sources_in n ≡ sources_in w) (same_choice : n.keep ≡ w.keep) (same_gaps : n.gaps ≡ w.gaps) (again : Again d (sources_in n) (columns_in n) (columns_in w)) where
  -- the accepted items of a list, made again on the wide join
  pub record WideItems (is : List Item) : Type 0 where
    pub all_zero : AllZero (grounds_items w (items_accepted n is))
    pub same_rows : read_all (type_in n) (finished_items n is) ≡ read_all (type_in w) (finished_items w (items_accepted n is))

  -- STORING WIDER CHANGES NO ROW, where no item is answered 13
  pub items_wider : (is : List Item) → No13 (grounds_items w (items_accepted n is)) → WideItems is
  items_wider is room =
      let obey = (sources_of n.formats n.schema n.sources n.tables n.keep n.gaps (runs n bytes_n accepted_n).accepted).obey in
      let said = items_answered w bytes_w accepted-w (items_accepted n is) in
      let r =
      items_again (lent_of n).plan n.parts (lent_of w).plan w.parts d (sources_in n) (columns_in n) (columns_in w) again obey (keeps_in n) is (start_counts n.gaps (type_in n))
      (moved_back n w bytes_n bytes_w accepted_n accepted-w d same_count same_choice same_gaps again (λ b k c. No13 (answers_to (lent_of w).plan w.parts (type_in w) b k (columns_in w) (items_accepted n is) c)) (subst No13 said room)) in
      record {
        all_zero = subst AllZero (sym said)
            (moved n w bytes_n bytes_w accepted_n accepted-w d same_count same_choice same_gaps again (λ b k c. AllZero (answers_to (lent_of w).plan w.parts (type_in w) b k (columns_in w) (items_accepted n is) c)) r.zeros);
        same_rows = items_book_lem n bytes_n accepted_n is
            ∙ moved n w bytes_n bytes_w accepted_n accepted-w d same_count same_choice same_gaps again
            (λ b k c. book_items n is ≡ items_book (lent_of w).plan w.parts (type_in w) b k (columns_in w) (items_accepted n is) c) r.same_rows
            ∙ sym (items_book_lem w bytes_w accepted-w (items_accepted n is));
      }

-- BOTH: where room is enough, the opening and every accepted item are accepted again, and the rows are the same
module _ (n w : Lending) (bytes_n : Bytes n) (bytes_w : Bytes w) (accepted_n : (opening_of n).refusal ≡ 0) (d : Wider (type_in n) (type_in w)) (stored : StoredWider n w)
    (again : Again d (sources_in n) (columns_in n) (columns_in w)) (same_choice : n.keep ≡ w.keep) (same_gaps : n.gaps ≡ w.gaps) (small : length w.room ≤ ceiling)
    (no_13 : (opening_of w).refusal ≡ 13 → ⊥) (no_14 : (opening_of w).refusal ≡ 14 → ⊥) where
  pub items_made_again : (is : List Item) → No13 (grounds_items w (items_accepted n is))
      → WideItems n w bytes_n bytes_w accepted_n (opens_again n w bytes_n bytes_w accepted_n d stored again same_choice same_gaps small no_13 no_14) d stored.same_count same_choice same_gaps again is
  items_made_again = items_wider n w bytes_n bytes_w accepted_n (opens_again n w bytes_n bytes_w accepted_n d stored again same_choice same_gaps small no_13 no_14) d stored.same_count same_choice same_gaps again
