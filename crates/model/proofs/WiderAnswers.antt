-- Orders over sources stored wider: accepted again, with the same counts, rows and nulls. Assumes nothing.
use mathlib.Core.Path.{◌≡◌, refl, ap, ap₂}
use mathlib.Core.Bool.{Bool, true, false, not, ◌&&◌, ◌||◌}
use Prim.Native.Nat.{ℕ, zero, suc, ◌+◌, ◌-◌, ◌≤◌, ◌<◌}
use native.Mathlib.Nat.{add_assoc}
use native.Mathlib.Omega.{arith}
use lib.Dec.{ltb, leb, eqb}
use lib.ListN.{replicate}
use borrow.Author.Tests.{ltb-true, leb-true}
use Rattle.columnar.specs.Types.{Ty}
use Rattle.columnar.specs.Array.{Array, ok, null_count_of}
use Rattle.columnar.specs.Reading.{Column, read, Source}
use Rattle.columnar.specs.Wider.{Wider, Kept, Again}
use Rattle.columnar.proofs.Kept.{seg_same, nulls_in_same, ok_kept, nulls_kept}
use Rattle.columnar.proofs.Wider.{reads_same}
use Rattle.model.specs.Try.{done}
use Rattle.model.specs.Grounds.{Counts}
use Rattle.model.specs.Opening.{keeps}
use Rattle.model.specs.Book.{Call, copy, nulls, answer, entered, nulls_entered}
use Rattle.model.proofs.Follow.{Follows, follows_done, follows_when, guard_done}
use Rattle.model.proofs.WiderAsks.{copy_again, ask_nulls_again, null_row_wider}
use Rattle.columnar.specs.Test.{every}

-- ---- a node keeps nulls in both or in neither

no_null_kept : {B B' : Type 0} {same : (ℕ → Bool) → B → B' → ℕ → ℕ → Type 0} (m : ℕ) (xs : ℕ → Array B) (xs' : ℕ → Array B')
    → ((j : ℕ) → j < m → Kept same (xs j) (xs' j)) → every (λ i. eqb (null_count_of (xs i)) 0) m ≡ every (λ i. eqb (null_count_of (xs' i)) 0) m
no_null_kept zero xs xs' h = refl
no_null_kept (suc m) xs xs' h =
    ap₂ ◌&&◌ (no_null_kept m xs xs' (λ j q. h j (omega arith))) (ap (λ c. eqb c 0) (nulls_kept (h m (omega arith))))

pub keeps_wider : {B B' : Type 0} {same : (ℕ → Bool) → B → B' → ℕ → ℕ → Type 0} (u : Bool) (m : ℕ) (xs : ℕ → Array B) (xs' : ℕ → Array B')
    → ((j : ℕ) → j < m → Kept same (xs j) (xs' j)) → keeps u m xs ≡ keeps u m xs'
keeps_wider u m xs xs' h = ap (λ b. u || not b) (no_null_kept m xs xs' h)

-- ---- one order

and_left : (a b : Bool) → a && b ≡ true → a ≡ true
and_left true b e = refl
and_left false b e = e

and_right : (a b : Bool) → a && b ≡ true → b ≡ true
and_right true b e = e
and_right false b e = absurd (let z : false ≡ true = e in let y : ◌≡◌ {A = ℕ} 0 1 = cc in omega arith)

-- an order's range is inside
pub record Inside (m : ℕ) (len : ℕ → ℕ) (j a e : ℕ) : Type 0 where
  pub source : j < m
  pub order : a ≤ e
  pub within : e ≤ len j

inside : (m : ℕ) (len : ℕ → ℕ) (j a e : ℕ) → ltb j m ≡ true → leb a e && leb e (len j) ≡ true → Inside m len j a e
inside m len j a e h k =
    record { source = ltb-true j m h; order = leb-true a e (and_left (leb a e) (leb e (len j)) k); within = leb-true e (len j) (and_right (leb a e) (leb e (len j)) k) }

module _ {t t' : Ty} (d : Wider t t') (m : ℕ) (ss : ℕ → Column t) (ss' : ℕ → Column t') (h : Again d m ss ss') (good : (j : ℕ) → j < m → Source t (ss j)) (keep : Bool) where
  pub answer_again : (o : Call) (c : Counts) → Follows (answer t keep m ss o c) (answer t' keep m ss' o c)
  answer_again (copy j a e) c =
      follows_when (ltb j m) (ltb j m) 1 1 (λ z. z)
      (λ q.
      let jm : j < m = ltb-true j m q in
      rw (← (h.each j jm).same_len)
      (follows_when (leb a e && leb e (ss j).len) (leb a e && leb e (ss j).len) 2 2 (λ z. z)
      (λ z. let i = inside m (λ k. (ss k).len) j a e q z in
      copy_again d (ss j) (ss' j) (h.each j jm) (good j jm) a (e - a) (omega (arith, i.order, i.within)) c)))
  answer_again (nulls n) c = follows_when keep keep 3 3 (λ z. z) (λ z. ask_nulls_again d n c)

  -- AN ORDER THAT IS ACCEPTED NARROW IS ACCEPTED WIDE, with the same counts
  pub answer_wider : (o : Call) (c c' : Counts) → answer t keep m ss o c ≡ done c' → answer t' keep m ss' o c ≡ done c'
  answer_wider o c c' e = follows_done c' (answer_again o c) e

  -- an accepted copy's range is inside
  copy_inside : (j a e : ℕ) (c c' : Counts) → answer t keep m ss (copy j a e) c ≡ done c' → Inside m (λ k. (ss k).len) j a e
  copy_inside j a e c c' z =
      let g = guard_done (ltb j m) 1 _ c' z in
      inside m (λ k. (ss k).len) j a e g.0 (guard_done (leb a e && leb e (ss j).len) 2 _ c' g.1).0

  -- IT ADDS THE SAME ROWS
  pub entered_wider : (o : Call) (c c' : Counts) → answer t keep m ss o c ≡ done c' → entered t keep m ss o ≡ entered t' keep m ss' o
  entered_wider (copy j a e) c c' z =
      let i = copy_inside j a e c c' z in
      seg_same (read t (ss j)) (read t' (ss' j)) a (e - a)
      (λ k q. reads_same d (h.each j i.source) (good j i.source) (a + k) (omega (arith, i.order, i.within)))
  entered_wider (nulls n) c c' z = ap (replicate n) (null_row_wider d)

  -- and counts the same nulls
  pub nulls_entered_wider : (o : Call) (c c' : Counts) → answer t keep m ss o c ≡ done c' → nulls_entered t keep m ss o ≡ nulls_entered t' keep m ss' o
  nulls_entered_wider (copy j a e) c c' z =
      let i = copy_inside j a e c c' z in
      let s = h.each j i.source in
      rw (← s.same_off)
      (nulls_in_same (ok (ss j).valid) (ok (ss' j).valid) ((ss j).off + a) (e - a)
      (λ k q. rw add_assoc (rw (← s.same_off) at (ok_kept s (a + k) (omega (arith, i.order, i.within))))))
  nulls_entered_wider (nulls n) c c' z = refl
