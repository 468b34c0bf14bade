-- Stretches of numbers that all stand in the body: none is refused, and the counters after them are known. Assumes nothing.
use mathlib.Core.Path.{◌≡◌, refl, sym, ap, subst, ◌∙◌}
use mathlib.Core.Bool.{Bool, true, false, cond, not, ◌&&◌}
use mathlib.Core.List.{List, [], ◌∷◌}
use Prim.Native.Nat.{ℕ, zero, suc, ◌+◌, ◌*◌, ◌-◌, ◌≤◌, ◌<◌}
use native.Mathlib.Nat.{add-zero, zero-add, mul-le-mul_left, le_refl}
use native.Mathlib.Numerals.{add-one}
use native.Mathlib.Omega.{arith}
use lib.ListN.{length, get_or, set}
use lib.Dec.{leb, ltb, eqb}
use borrow.Author.Tests.{lt-ltb, ltb-true, leb-true, le-leb, eqb-true}
use Rattle.number.specs.Number.{entry}
use Rattle.walk.specs.State.{Join, bytes_of, add_rows, grown, place, offset_of, far, slot_of, rows_in}
use Rattle.walk.specs.Log.{Log, Out, Did, apply_if, next}
use Rattle.walk.specs.Leaves.{copy_numbers}
use Rattle.batch.specs.Stretch.{sum_of, stretch, stretches}
use Rattle.batch.specs.Batch.{batch_leaf}
use Rattle.batch.proofs.Ends.{Leaves, leaves_found, leaves_next, leaves_need, leaves_wrote, leaves_done}
use Rattle.batch.proofs.Stretches.{and_left, and_right}
use Rattle.batch.proofs.ListViews.{sum_up}
use Rattle.batch.specs.batch_walk.Plain.{is_plain, reached}
use Rattle.batch.specs.batch_walk.Side.{furthest_of}
use Rattle.batch.proofs.batch_walk.Sums.{sum_next, furthest_most}
use Rattle.batch.proofs.batch_walk.PlainLeaf.{plain_is}

grown_twice : (v m p : ℕ) → grown (grown v m) p ≡ grown v (m + p)
unfolding grown
grown_twice v m p = omega arith

set_twice : (l : List ℕ) (i m p : ℕ) → set (set l i (grown (get_or l i 0) m)) i (grown (get_or (set l i (grown (get_or l i 0) m)) i 0) p) ≡ set l i (grown (get_or l i 0) (m + p))
set_twice [] i m p = refl
set_twice (y ∷ l) zero m p = ap (λ v. v ∷ l) (grown_twice y m p)
set_twice (y ∷ l) (suc i) m p = ap (λ t. y ∷ t) (set_twice l i m p)

module _ (x : Join) (k : ℕ) (plain : is_plain x.plan k ≡ true) (small : k < 32) (E : ℕ) (is-reached : reached x k (bytes_of x.plan k) E ≡ true) where
  abbrev W : ℕ
  W = bytes_of x.plan k

  pub near : offset_of x k + E < far
  unfolding reached slot_of
  near = go (ltb (offset_of x k + E + 0) far) refl (and_left _ _ is-reached)
    where
      go : (t : Bool) → ltb (offset_of x k + E + 0) far ≡ t → ltb (cond t (offset_of x k + E) far) far ≡ true → offset_of x k + E < far
      go true e h = ltb-true (offset_of x k + E) far h
      go false e h = let z = ltb-true far far h in absurd (omega arith)

  pub slot_is : (a m : ℕ) → a + m ≤ E → slot_of x k a m ≡ offset_of x k + a
  unfolding slot_of
  slot_is a m h = let n = near in rw (lt-ltb (offset_of x k + a + m) far (omega arith)) refl

  pub ends_in_lem : place x k 3 + W * (offset_of x k + E) ≤ length x.body
  unfolding reached rows_in
  ends_in_lem =
      let h = leb-true (place x k 3 + W * (slot_of x k E 0 + 0)) (length x.body) (and_right (ltb (slot_of x k E 0) far) _ is-reached) in
      let g = rw (slot_is E 0 (omega arith)) at h in
      rw (add-zero (offset_of x k + E)) at g

  pub rows_are : (a m : ℕ) → a + m ≤ E → rows_in x (place x k 3) W (offset_of x k + a) m ≡ true
  unfolding rows_in
  rows_are a m h =
      let g : W * (offset_of x k + a + m) ≤ W * (offset_of x k + E) = mul-le-mul_left W (omega arith) in
      let e = ends_in_lem in
      le-leb (place x k 3 + W * (offset_of x k + a + m)) (length x.body) (omega arith)

  goes : (a m : ℕ) (c : List ℕ) → a + m ≤ E → Leaves (batch_leaf x k a m c) (add_rows k m c)
  unfolding copy_numbers
  goes a m c h =
      let n = near in
      rw (plain_is x k plain small a m c, slot_is a m h)
      (leaves_found far (offset_of x k + a) 12 c _ (omega arith) (leaves_next _ (leaves_need 12 c (rows_are a m h) (leaves_wrote _ c)) (leaves_done _)))

  module _ (start size : ℕ → ℕ) where
    abbrev Go : ℕ → ℕ → List ℕ → Out
    Go a m c = batch_leaf x k a m c

    steps : (n r a m : ℕ) (c : List ℕ) (v : ℕ) → a + m ≤ E → ((j : ℕ) → r ≤ j → j < r + n → start j + size j ≤ E) → v + sum_of size r ≡ m + sum_of size (r + n)
        → Leaves (stretch Go start size n r a m c) (add_rows k v c)
    unfolding stretch sum_of
    steps zero r a m c v h inside e =
        let f : v ≡ m = (let g = rw (add-zero r) at e in omega arith) in
        rw f (goes a m c h)
    steps (suc n) r a m c v h inside e =
        pick (eqb (size r) 0 && leb (start r) (a + m)) refl (eqb (start r) (a + m)) refl (eqb m 0 && leb a (start r)) refl (λ b p d u l g. steps n (suc r) b p d u l (λ j y z. inside j (omega arith) (omega arith)) g)
      where
        here : start r + size r ≤ E
        here = inside r (le_refl r) (omega arith)

        last : v + sum_of size r ≡ m + sum_of size (suc r + n)
        last = let q : r + suc n ≡ suc r + n = omega arith in rw q at e

        more : sum_of size (suc r) ≡ sum_of size r + size r
        more = sum_next size r

        least : sum_of size (suc r) ≤ sum_of size (suc r + n)
        least = sum_up size (suc r) n

        pick : (t : Bool) → (eqb (size r) 0 && leb (start r) (a + m)) ≡ t → (u : Bool) → eqb (start r) (a + m) ≡ u → (w : Bool) → (eqb m 0 && leb a (start r)) ≡ w
            → ((b p : ℕ) (d : List ℕ) (y : ℕ) → b + p ≤ E → y + sum_of size (suc r) ≡ p + sum_of size (suc r + n) → Leaves (stretch Go start size n (suc r) b p d) (add_rows k y d))
            → Leaves (cond t (stretch Go start size n (suc r) a m c) (cond u (stretch Go start size n (suc r) a (m + size r) c) (cond w (stretch Go start size n (suc r) (start r) (size r) c)
            (next (Go a m c) (λ c2. stretch Go start size n (suc r) (start r) (size r) c2))))) (add_rows k v c)
        pick true p u q w s ih = let z = eqb-true (size r) 0 (and_left _ (leb (start r) (a + m)) p) in let l = last in let o = more in ih a m c v h (omega arith)
        pick false p true q w s ih = let z = eqb-true (start r) (a + m) q in let l = last in let o = more in let y = here in ih a (m + size r) c v (omega arith) (omega arith)
        pick false p false q true s ih = let z = eqb-true m 0 (and_left _ (leb a (start r)) s) in let l = last in let o = more in ih (start r) (size r) c v here (omega arith)
        pick false p false q false s ih =
            let l = last in
            let o = more in
            let y = least in
            let g : m + (v - m) ≡ v = omega arith in
            leaves_next _ (goes a m c h) (subst (λ d. Leaves (stretch Go start size n (suc r) (start r) (size r) (add_rows k m c)) d) (set_twice c (3 * k) m (v - m) ∙ ap (λ y. add_rows k y c) g) (ih (start r) (size r) (add_rows k m c) (v - m) here (omega arith)))

    pub all_go : (n : ℕ) (c : List ℕ) → ((j : ℕ) → j < n → start j + size j ≤ E) → Leaves (stretches Go start size n c) (add_rows k (sum_of size n) c)
    unfolding sum_of
    all_go n c inside = steps n 0 0 0 c (sum_of size n) (omega arith) (λ j y z. inside j (omega arith)) (rw (zero-add n) (omega arith))

unwritten : (S P : List ℕ) (l : Log) (room : List ℕ) → room ≡ apply_if S P false l room
unfolding apply_if
unwritten S P l room = refl

-- a walk that only tries
pub tried : (x : Join) (k : ℕ) (plain : is_plain x.plan k ≡ true) (small : k < 32) (start size : ℕ → ℕ) (n : ℕ) (c room : List ℕ) (wr : Bool) {r : Bool} {w v : ℕ} {c2 : List ℕ} → w ≡ bytes_of x.plan k
    → r ≡ (not wr && reached x k w (furthest_of (λ q. start q + size q) n)) → r ≡ true → v ≡ sum_of size n → c2 ≡ add_rows k v c
    → Did x.plan x.parts wr (stretches (λ a m d. batch_leaf x k a m d) start size n c) room 0 c2 room
tried x k plain small start size n c room wr {r} {w} {v} {c2} e f g h i =
    let both : (not wr && reached x k (bytes_of x.plan k) (furthest_of (λ q. start q + size q) n)) ≡ true = rw e at (sym f ∙ g) in
    let y = and_right (not wr) _ both in
    let l = all_go x k plain small (furthest_of (λ q. start q + size q) n) y start size n c (λ j q. let z = furthest_most (λ q. start q + size q) n j q in let o = near x k plain small (furthest_of (λ q. start q + size q) n) y in omega arith) in
    go wr (and_left (not wr) _ both) l
  where
    go : (t : Bool) → not t ≡ true → Leaves (stretches (λ a m d. batch_leaf x k a m d) start size n c) (add_rows k (sum_of size n) c)
        → Did x.plan x.parts t (stretches (λ a m d. batch_leaf x k a m d) start size n c) room 0 c2 room
    go false q l = record { answer = sym l.ok; counters = i ∙ ap (λ y. add_rows k y c) h ∙ sym l.left; bytes = unwritten x.plan x.parts (stretches (λ a m d. batch_leaf x k a m d) start size n c).log room }
    go true q l = let z : ◌≡◌ {A = ℕ} 0 1 = ap (λ b. cond b 1 0) q in absurd (omega arith)

-- what is asked of the rows that are named
pub refused_is : (x : Join) (i w v slot n : ℕ) (wr : Bool) {r : Bool} {o z e : ℕ} → wr ≡ false → o ≡ place x i 3 → z ≡ place x i 5
    → e ≡ furthest_of (λ q. entry w x.body o (slot + q) + entry w x.body z (slot + q)) n → r ≡ reached x (i + 1) v e
    → r ≡ (not wr && reached x (suc i) v (furthest_of (λ q. entry w x.body (place x i 3) (slot + q) + entry w x.body (place x i 5) (slot + q)) n))
refused_is x i w v slot n wr {r} {o} {z} {e} p f g h q =
    rw p
    (q
    ∙ ap (λ y. reached x y v e) (add-one i)
    ∙ ap (λ y. reached x (suc i) v y)
    (h ∙ ap (λ y. furthest_of (λ q. entry w x.body y (slot + q) + entry w x.body z (slot + q)) n) f ∙ ap (λ y. furthest_of (λ q. entry w x.body (place x i 3) (slot + q) + entry w x.body y (slot + q)) n) g))
