-- AN ORDER CUT IN TWO, by lengths alone: where the parts have room for the two halves they have room for the single order, and the book
-- has the same rows. Assumes nothing.
use mathlib.Core.Path.{◌≡◌, refl, sym, ap, ap₂, ◌∙◌, subst}
use mathlib.Core.Bool.{Bool, true, false, not, cond, ◌&&◌}
use mathlib.Core.List.{List, [], ◌∷◌, ◌++◌, append-nil, append_assoc, Memᴰ}
use Prim.Native.Nat.{ℕ, suc, ◌+◌, ◌*◌, ◌/◌, ◌≤◌, ◌<◌}
use native.Mathlib.Nat.{mul-le-mul_right}
use native.Mathlib.Omega.{arith}
use lib.Dec.{leb, eqb}
use borrow.Author.Tests.{leb-true, le-leb}
use Rattle.columnar.specs.Row.{Row}
use Rattle.columnar.specs.Types.{width, Plain, fixed, string, Ty, t_plain, t_view, t_list_view, t_list, t_sparse, t_dense, t_run_end, t_dictionary}
use Rattle.columnar.specs.Reading.{Column, Source, masks}
use Rattle.columnar.specs.Test.{each}
use Rattle.model.specs.Try.{Try, done, stop, then, guard, after}
use Rattle.model.specs.Grounds.{Counts, rows_of, bytes_of, kid_of}
use Rattle.model.specs.Book.{Call, copy, answer, entered}
use Rattle.model.specs.Cut.{Under, outside, under_runs, under_list, CutNode, CutBelow, Cut}
use Rattle.model.proofs.Book.{and_left, and_right}
use Rattle.model.proofs.Follow.{guard_done}
use Rattle.model.proofs.CutTries.{done_is, Then, then_done, then_is, guard_is}
use Rattle.model.proofs.CutLess.{Led}
use Rattle.model.proofs.CutOrder.{Taken, taken, entered_cut, answer_cut}
use Rattle.walk.specs.State.{keeps_of}
use Rattle.refinement.specs.walk_is_model.Holds.{child_of}
use Rattle.plan.specs.parts.Parts.{size_of}
use Rattle.refinement.specs.orders.Counted.{plain_sizes, sizes_of, room_bits, room_all, room_node, room_below, room_for, answer_room, counts_after, book_room}

-- ---- room for more is room for less

both : (a b : Bool) → a ≡ true → b ≡ true → a && b ≡ true
both true b e f = f
both false b e f = e

less : (a b l : ℕ) → a ≤ b → leb b l ≡ true → leb a l ≡ true
less a b l h e = le-leb a l (omega (arith, leb-true b l e))

abbrev AllLess : List ℕ → List ℕ → Type 0
AllLess [] [] = Unit {0}
AllLess [] (y ∷ ys) = ⊥
AllLess (x ∷ xs) [] = ⊥
AllLess (x ∷ xs) (y ∷ ys) = (x ≤ y) × AllLess xs ys

plain_sizes_less : (p : Plain) (u : Under) (x y : Counts) → Cut (t_plain p) u x y → AllLess (plain_sizes p x) (plain_sizes p y)
plain_sizes_less (fixed n) u x y h = (mul-le-mul_right (width n) h.rows_less, tt)
plain_sizes_less (string w) u x y h = (mul-le-mul_right w (omega (arith, h.rows_less)), (h.below_less, tt))

sizes_less : (t : Ty) (u : Under) (x y : Counts) → Cut t u x y → AllLess (sizes_of t x) (sizes_of t y)
sizes_less (t_plain p) u x y h = plain_sizes_less p u x y h
sizes_less t_view u x y h = (mul-le-mul_right 16 h.rows_less, tt)
sizes_less (t_list_view w t) u x y h = (mul-le-mul_right w h.rows_less, (mul-le-mul_right w h.rows_less, tt))
sizes_less (t_list w t) u x y h = (mul-le-mul_right w (omega (arith, h.rows_less)), tt)
sizes_less (t_sparse ids nullable f) u x y h = (h.rows_less, tt)
sizes_less (t_dense ids nullable f) u x y h = (h.rows_less, (mul-le-mul_right 4 h.rows_less, tt))
sizes_less (t_run_end w t) u x y h = tt
sizes_less (t_dictionary n p) u x y h = (mul-le-mul_right (width n) h.rows_less, tt)

each_less : (p q : ℕ → Bool) (l : List ℕ) → ((e : ℕ) → Memᴰ e l → q e ≡ true → p e ≡ true) → each q l ≡ true → each p l ≡ true
each_less p q [] h k = refl
each_less p q (c ∷ cs) h k =
    both (p c) (each p cs) (h c (Memᴰ.head refl) (and_left (q c) (each q cs) k)) (each_less p q cs (λ e r. h e (Memᴰ.tail r)) (and_right (q c) (each q cs) k))

module _ (plan parts : List ℕ) where
  bits_less : (i : ℕ) (v : Bool) (a b : ℕ) → a ≤ b → room_bits plan parts i v b ≡ true → room_bits plan parts i v a ≡ true
  bits_less i v a b h = go (v && not (eqb (keeps_of plan i) 0))
    where
      go : (k : Bool) → cond k (leb ((b + 7) / 8) (size_of plan parts i 0)) true ≡ true → cond k (leb ((a + 7) / 8) (size_of plan parts i 0)) true ≡ true
      go true e = less ((a + 7) / 8) ((b + 7) / 8) _ (omega (arith, h)) e
      go false e = refl

  all_less : (i b : ℕ) (xs ys : List ℕ) → AllLess xs ys → room_all plan parts i b ys ≡ true → room_all plan parts i b xs ≡ true
  all_less i b [] [] h e = refl
  all_less i b [] (y ∷ ys) h e = absurd h
  all_less i b (x ∷ xs) [] h e = absurd h
  all_less i b (x ∷ xs) (y ∷ ys) h e =
      both _ _ (less x y _ h.0 (and_left _ (room_all plan parts i (suc b) ys) e)) (all_less i (suc b) xs ys h.1 (and_right (leb y (size_of plan parts i (suc b))) _ e))

  node_less : (t : Ty) (u : Under) (i : ℕ) (p q : Bool) (x y : Counts) → Cut t u x y → (q ≡ true → p ≡ true) → room_node plan parts i t q y ≡ true → room_node plan parts i t p x ≡ true
  node_less t u i p q x y h k e =
      let own = and_left (room_bits plan parts i (masks t) (rows_of y) && room_all plan parts i 0 (sizes_of t y)) q e in
      both _ p
      (both _ _ (bits_less i (masks t) (rows_of x) (rows_of y) h.rows_less (and_left _ (room_all plan parts i 0 (sizes_of t y)) own))
      (all_less i 0 (sizes_of t x) (sizes_of t y) (sizes_less t u x y h) (and_right (room_bits plan parts i (masks t) (rows_of y)) _ own)))
      (k (and_right (room_bits plan parts i (masks t) (rows_of y) && room_all plan parts i 0 (sizes_of t y)) q e))

  below_less : (t : Ty) (u : Under) (i : ℕ) (x y : Counts) → CutBelow t u x y → room_below plan parts t i y ≡ true → room_below plan parts t i x ≡ true
  below_less (t_plain p) u i x y h e = refl
  below_less t_view u i x y h e = refl
  below_less (t_list_view w t) u i x y h e =
      node_less t (under_list u) (suc i) _ _ (kid_of x 0) (kid_of y 0) h (below_less t (under_list u) (suc i) (kid_of x 0) (kid_of y 0) h.below_less) e
  below_less (t_list w t) u i x y h e =
      node_less t (under_list u) (suc i) _ _ (kid_of x 0) (kid_of y 0) h (below_less t (under_list u) (suc i) (kid_of x 0) (kid_of y 0) h.below_less) e
  below_less (t_sparse ids nullable f) u i x y h e =
      each_less _ _ ids
      (λ c m. node_less (f c) u (child_of plan i c) _ _ (kid_of x c) (kid_of y c) (h c m) (below_less (f c) u (child_of plan i c) (kid_of x c) (kid_of y c) (h c m).below_less)) e
  below_less (t_dense ids nullable f) u i x y h e =
      each_less _ _ ids
      (λ c m. node_less (f c) u (child_of plan i c) _ _ (kid_of x c) (kid_of y c) (h c) (below_less (f c) u (child_of plan i c) (kid_of x c) (kid_of y c) (h c).below_less)) e
  below_less (t_run_end w t) u i x y h e =
      let kid = room_node plan parts (suc (suc i)) t (room_below plan parts t (suc (suc i)) (kid_of y 0)) (kid_of y 0) in
      both _ _ (less _ _ _ (mul-le-mul_right w h.1.rows_less) (and_left _ kid e))
      (node_less t (under_runs u) (suc (suc i)) _ _ (kid_of x 0) (kid_of y 0) h.1 (below_less t (under_runs u) (suc (suc i)) (kid_of x 0) (kid_of y 0) h.1.below_less)
      (and_right (leb (rows_of (kid_of y 0) * w) (size_of plan parts (suc i) 1)) kid e))
  below_less (t_dictionary k p) u i x y h e = refl

  -- THE PARTS HAVE ROOM FOR LESS
  pub room_less : (t : Ty) (u : Under) (i : ℕ) (x y : Counts) → Cut t u x y → room_for plan parts t i y ≡ true → room_for plan parts t i x ≡ true
  room_less t u i x y h = node_less t u i _ _ x y h (below_less t u i x y h.below_less)

  module _ (t : Ty) (keep : Bool) (m : ℕ) (ss : ℕ → Column t) where
    abbrev says : Call → Counts → Try Counts
    says = answer_room plan parts t keep m ss

    -- an accepted call: no ground stands, and there is room
    pub record Room (o : Call) (c d : Counts) : Type 0 where
      pub answered : answer t keep m ss o c ≡ done d
      pub room : room_for plan parts t 0 d ≡ true

    pub roomy : (o : Call) (c d : Counts) → says o c ≡ done d → Room o c d
    roomy o c d e =
        let p = then_done (answer t keep m ss o c) _ d e in
        let q = guard_done (room_for plan parts t 0 p.first) 13 _ d p.rest_done in
        let z : p.first ≡ d = done_is q.1 in
        record { answered = p.first_done ∙ ap done z; room = subst (λ v. room_for plan parts t 0 v ≡ true) z q.0 }

    -- THE SINGLE ORDER IS ACCEPTED where its halves are, one after the other; no node holds more
    pub answer_room_cut : ((j : ℕ) → j < m → Source t (ss j)) → (j a k e : ℕ) (c c₁ c₂ : Counts) → says (copy j a k) c ≡ done c₁ → says (copy j k e) c₁ ≡ done c₂
        → Led (λ v. Cut t outside v c₂) (says (copy j a e) c)
    answer_room_cut good j a k e c c₁ c₂ p q =
        let f = roomy (copy j a k) c c₁ p in
        let g = roomy (copy j k e) c₁ c₂ q in
        let l = answer_cut t keep m ss good j a k e c c₁ c₂ f.answered g.answered in
        record {
          value = l.value;
          is = then_is (answer t keep m ss (copy j a e) c) _ l.value l.is ∙ guard_is _ 13 _ (room_less t outside 0 l.value c₂ l.holds g.room);
          holds = l.holds;
        }

    -- ---- the book

    abbrev book_from : List Call → Counts → List Row
    book_from = book_room plan parts t keep m ss

    -- the book of more calls
    pub book_behind : (os ps : List Call) (c : Counts) → book_from (os ++ ps) c ≡ book_from os c ++ book_from ps (counts_after plan parts t keep m ss os c)
    book_behind [] ps c = refl
    book_behind (o ∷ os) ps c = go (says o c) (book_behind os ps)
      where
        go : (a : Try Counts) → ((c : Counts) → book_from (os ++ ps) c ≡ book_from os c ++ book_from ps (counts_after plan parts t keep m ss os c))
            → ◌≡◌ {A = List Row} (elim a [ done c' ↦ entered t keep m ss o ++ book_from (os ++ ps) c' | stop g ↦ book_from (os ++ ps) c ])
            (elim a [ done c' ↦ entered t keep m ss o ++ book_from os c' | stop g ↦ book_from os c ] ++ book_from ps (counts_after plan parts t keep m ss os (after a c)))
        go (done d) k = rw (k d, append_assoc)
        go (stop g) k = k c

    -- .. of an accepted one
    book_first : (o : Call) (os : List Call) (c d : Counts) → says o c ≡ done d → book_from (o ∷ os) c ≡ entered t keep m ss o ++ book_from os d
    book_first o os c d e = ap (λ (a : Try Counts). elim a as (λ b. List Row) [ done c' ↦ entered t keep m ss o ++ book_from os c' | stop g ↦ book_from os c ]) e

    -- THE BOOK OF THE TWO HALVES IS THAT OF THE SINGLE ORDER, behind any calls and before any that both go on with
    pub book_cut : ((j : ℕ) → j < m → Source t (ss j)) → (os : List Call) (j a k e : ℕ) (c c₁ c₂ : Counts)
        → says (copy j a k) (counts_after plan parts t keep m ss os c) ≡ done c₁ → says (copy j k e) c₁ ≡ done c₂
        → book_from (os ++ copy j a k ∷ copy j k e ∷ []) c ≡ book_from (os ++ copy j a e ∷ []) c
    book_cut good os j a k e c c₁ c₂ p q =
        let h = counts_after plan parts t keep m ss os c in
        let f = taken t keep m ss j a k h c₁ (roomy (copy j a k) h c₁ p).answered in
        let g = taken t keep m ss j k e c₁ c₂ (roomy (copy j k e) c₁ c₂ q).answered in
        let l = answer_room_cut good j a k e h c₁ c₂ p q in
        book_behind os (copy j a k ∷ copy j k e ∷ []) c
        ∙ ap (book_from os c ++◌)
        (book_first (copy j a k) (copy j k e ∷ []) h c₁ p
        ∙ ap (entered t keep m ss (copy j a k) ++◌) (book_first (copy j k e) [] c₁ c₂ q)
        ∙ sym (append_assoc (entered t keep m ss (copy j a k)) (entered t keep m ss (copy j k e)) [])
        ∙ ap (◌++ []) (sym (entered_cut t keep m ss j a k e f.in_order_lem g.in_order_lem))
        ∙ sym (book_first (copy j a e) [] h l.value l.is))
        ∙ sym (book_behind os (copy j a e ∷ []) c)
