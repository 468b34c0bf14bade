-- STORING WIDER on lent memory: the accepted calls of any list, made again over the same rows stored wider, are all accepted where room is
-- enough, and the book has the same rows. Assumes nothing.
use mathlib.Core.Path.{◌≡◌, refl, sym, ap₂, subst}
use mathlib.Core.Bool.{Bool, true, false}
use mathlib.Core.List.{List, [], ◌∷◌, ◌++◌}
use Prim.Native.Nat.{ℕ, ◌<◌}
use native.Mathlib.Omega.{arith}
use Rattle.columnar.specs.Row.{Row}
use Rattle.columnar.specs.Types.{Ty}
use Rattle.columnar.specs.Reading.{Column, Source}
use Rattle.columnar.specs.Wider.{Wider, Again}
use Rattle.model.specs.Try.{Try, done, stop, then, guard, after}
use Rattle.model.specs.Grounds.{Counts}
use Rattle.model.specs.Book.{Call, answer, entered}
use Rattle.model.proofs.WiderAnswers.{answer_wider, entered_wider}
use Rattle.refinement.specs.orders.Counted.{room_for, answer_room, book_room, accepted_room, AllAcceptedRoom, RoomEnough}

-- an answer with room is one without
without_room : (a : Try Counts) (room : Counts → Bool) (c' : Counts) → then a (λ c. guard (room c) 13 (done c)) ≡ done c' → a ≡ done c'
without_room (done c) room c' e = go (room c) e
  where
    go : (b : Bool) → guard b 13 (done c) ≡ done c' → done c ≡ done c'
    go true h = h
    go false h = absurd (let z : ◌≡◌ {A = ℕ} 0 1 = cc h in omega arith)
without_room (stop g) room c' e = absurd (let z : ◌≡◌ {A = ℕ} 0 1 = cc e in omega arith)

-- .. and the other way round, where 13 does not stand
with_room : (a : Try Counts) (room : Counts → Bool) (c' : Counts) → a ≡ done c' → (then a (λ c. guard (room c) 13 (done c)) ≡ stop 13 → ⊥) → then a (λ c. guard (room c) 13 (done c)) ≡ done c'
with_room a room c' e n = subst (λ (v : Try Counts). then v (λ c. guard (room c) 13 (done c)) ≡ done c') (sym e) (go (room c') (subst (λ (v : Try Counts). then v (λ c. guard (room c) 13 (done c)) ≡ stop 13 → ⊥) e n))
  where
    go : (b : Bool) → (guard b 13 (done c') ≡ stop 13 → ⊥) → guard b 13 (done c') ≡ done c'
    go true h = refl
    go false h = absurd (h refl)

-- narrow: plan and parts of the one join, plan' and parts' of the other
module _ (plan parts plan' parts' : List ℕ) {t t' : Ty} (w : Wider t t') (m : ℕ) (ss : ℕ → Column t) (ss' : ℕ → Column t') (again : Again w m ss ss')
    (good : (j : ℕ) → j < m → Source t (ss j)) (keep : Bool) where
  abbrev narrow : Call → Counts → Try Counts
  narrow = answer_room plan parts t keep m ss

  abbrev wide : Call → Counts → Try Counts
  wide = answer_room plan' parts' t' keep m ss'

  answer_room_lem : (o : Call) (c c' : Counts) → narrow o c ≡ done c' → (wide o c ≡ stop 13 → ⊥) → wide o c ≡ done c'
  answer_room_lem o c c' e n =
      with_room (answer t' keep m ss' o c) (room_for plan' parts' t' 0) c'
      (answer_wider w m ss ss' again good keep o c c' (without_room (answer t keep m ss o c) (room_for plan parts t 0) c' e)) n

  entered_room : (o : Call) (c c' : Counts) → narrow o c ≡ done c' → entered t keep m ss o ≡ entered t' keep m ss' o
  entered_room o c c' e = entered_wider w m ss ss' again good keep o c c' (without_room (answer t keep m ss o c) (room_for plan parts t 0) c' e)

  -- the accepted calls, and all of them made again
  abbrev pub made_room : List Call → Counts → List Call
  made_room = accepted_room plan parts t keep m ss

  pub record WideRoom (os : List Call) (c : Counts) (made : List Call) (rows : List Row) : Type 0 where
    pub all_accepted : AllAcceptedRoom plan' parts' t' keep m ss' made c
    pub same_book : rows ≡ book_room plan' parts' t' keep m ss' made c

  -- ALL ARE ACCEPTED AGAIN, and the book has the same rows
  pub wide_room : (os : List Call) (c : Counts) → RoomEnough plan' parts' t' keep m ss' (made_room os c) c
      → WideRoom os c (made_room os c) (book_room plan parts t keep m ss os c)
  wide_room [] c n = record { all_accepted = tt; same_book = refl }
  wide_room (o ∷ os) c n = go (narrow o c) refl n (wide_room os)
    where
      onward : (d : Counts) (a : Try Counts) → a ≡ done d → WideRoom os d (made_room os d) (book_room plan parts t keep m ss os d)
          → entered t keep m ss o ≡ entered t' keep m ss' o
          → (elim a as (λ b. Type 0) [ done c' ↦ AllAcceptedRoom plan' parts' t' keep m ss' (made_room os d) c' | stop g ↦ ⊥ ])
          × (◌≡◌ {A = List Row} (entered t keep m ss o ++ book_room plan parts t keep m ss os d)
          (elim a [ done c' ↦ entered t' keep m ss' o ++ book_room plan' parts' t' keep m ss' (made_room os d) c' | stop g ↦ book_room plan' parts' t' keep m ss' (made_room os d) c ]))
      onward d (done c') e r s = let z : c' ≡ d = cc e in rw z (r.all_accepted, ap₂ ◌++◌ s r.same_book)
      onward d (stop g) e r s = absurd (let z : ◌≡◌ {A = ℕ} 0 1 = cc e in omega arith)

      go : (a : Try Counts) → narrow o c ≡ a
          → RoomEnough plan' parts' t' keep m ss' (elim a [ done c' ↦ o ∷ made_room os c' | stop g ↦ made_room os c ]) c
          → ((d : Counts) → RoomEnough plan' parts' t' keep m ss' (made_room os d) d → WideRoom os d (made_room os d) (book_room plan parts t keep m ss os d))
          → WideRoom (o ∷ os) c (elim a [ done c' ↦ o ∷ made_room os c' | stop g ↦ made_room os c ])
          (elim a [ done c' ↦ entered t keep m ss o ++ book_room plan parts t keep m ss os c' | stop g ↦ book_room plan parts t keep m ss os c ])
      go (done d) e n f =
          let q = answer_room_lem o c d e n.0 in
          let r = onward d (wide o c) q (f d (subst (λ (a : Try Counts). RoomEnough plan' parts' t' keep m ss' (made_room os d) (after a c)) q n.1)) (entered_room o c d e) in
          record { all_accepted = r.0; same_book = r.1 }
      go (stop g) e n f = let r = f c n in record { all_accepted = r.all_accepted; same_book = r.same_book }
