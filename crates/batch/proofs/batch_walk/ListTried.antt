-- Rows of byte strings that a list-view names, looked at one by one. Assumes nothing.
use mathlib.Core.Path.{◌≡◌, refl, sym, ap, subst, ◌∙◌}
use mathlib.Core.Bool.{Bool, true, false, cond, not}
use mathlib.Core.List.{List}
use Prim.Native.Nat.{ℕ, suc, ◌+◌, ◌*◌, ◌-◌, ◌^◌, ◌≤◌, ◌<◌}
use native.Mathlib.Nat.{add-zero}
use native.Mathlib.Numerals.{add-one}
use native.Mathlib.Omega.{arith}
use lib.ListN.{length}
use lib.Dec.{ltb, eqb}
use borrow.Author.Tests.{lt-ltb, ltb-true, leb-true, eqb-true, eqb-false}
use Rattle.columnar.specs.Types.{half}
use Rattle.utils.specs.Offsets.{largest}
use Rattle.array_data.proofs.lent_tables.Laws.{yes}
use Rattle.walk.specs.State.{Join, bytes_of, bytes, add_rows, set_bytes, grown, top, place, offset_of, far, slot_of, rows_in}
use Rattle.walk.specs.Log.{Out, Did}
use Rattle.number.specs.Number.{entry}
use Rattle.batch.specs.Stretch.{sum_of, stretches}
use Rattle.batch.specs.Batch.{batch_leaf}
use Rattle.batch.specs.batch_walk.Plain.{is_text, reached}
use Rattle.batch.specs.batch_walk.Side.{furthest_of}
use Rattle.batch.proofs.Stretches.{and_left, and_right}
use Rattle.batch.proofs.batch_walk.Sums.{furthest_most}
use Rattle.batch.proofs.batch_walk.TextLeaf.{text_wide}
use Rattle.batch.specs.batch_walk.Texts.{chars_of, Rising}
use Rattle.batch.proofs.batch_walk.Steady.{texts_tried}

module _ (x : Join) (k v e : ℕ) (h : reached x k v e ≡ true) where
  reach_near : offset_of x k + e < far
  unfolding reached slot_of
  reach_near = go (ltb (offset_of x k + e + 0) far) refl (and_left _ _ h)
    where
      go : (t : Bool) → ltb (offset_of x k + e + 0) far ≡ t → ltb (cond t (offset_of x k + e) far) far ≡ true → offset_of x k + e < far
      go true p q = ltb-true (offset_of x k + e) far q
      go false p q = let z = ltb-true far far q in absurd (omega arith)

  slot_there : slot_of x k e 0 ≡ offset_of x k + e
  unfolding slot_of
  slot_there = let n = reach_near in rw (lt-ltb (offset_of x k + e + 0) far (omega arith)) refl

  reach_in : place x k 3 + v * (offset_of x k + e) ≤ length x.body
  unfolding reached rows_in
  reach_in =
      let p = leb-true (place x k 3 + v * (slot_of x k e 0 + 0)) (length x.body) (and_right (ltb (slot_of x k e 0) far) _ h) in
      let g = rw slot_there at p in
      rw (add-zero (offset_of x k + e)) at g

module _ (x : Join) (k : ℕ) (start size : ℕ → ℕ) (n v : ℕ) {end behind offset at : ℕ} {r : Bool} (furthest : end ≡ furthest_of (λ q. start q + size q) n) (up : behind ≡ grown end 1)
    (q : r ≡ reached x k v behind) (l : not r ≡ false) (slot : offset ≡ slot_of x k 0 0) (is_at : at ≡ place x k 3) where
  near : offset_of x k + behind < far
  near = reach_near x k v behind (yes q l)

  one : behind ≡ end + 1
  unfolding grown
  one = let n = near in omega arith

  offset_is : offset ≡ offset_of x k
  unfolding slot_of
  offset_is = let n = near in slot ∙ rw (lt-ltb (offset_of x k + 0 + 0) far (omega arith)) (add-zero (offset_of x k))

  standing : place x k 3 + v * (offset_of x k + end + 1) ≤ length x.body
  standing =
      let i = reach_in x k v behind (yes q l) in
      let o = one in
      let e : v * (offset_of x k + end + 1) ≡ v * (offset_of x k + behind) = ap (λ z. v * z) (let y : offset_of x k + end + 1 ≡ offset_of x k + behind = omega arith in y) in
      omega arith

  within : (j : ℕ) → j < n → start j + size j ≤ end
  within j h = let m = furthest_most (λ q. start q + size q) n j h in let o = one in let i = near in omega arith

  -- what is asked of rows that are looked at
  pub rows_stand : (at + v * (offset + end + 1) ≤ length x.body) × (offset + end < 2 ^ 63) × ((j : ℕ) → j < n → start j + size j ≤ end)
  rows_stand =
      let s = standing in
      let o = offset_is in
      let i = near in
      let b = one in
      let e : v * (offset + end + 1) ≡ v * (offset_of x k + end + 1) = ap (λ z. v * (z + end + 1)) o in
      (omega arith, omega arith, within)

  -- NONE IS REFUSED
  pub list_did : is_text x.plan k ≡ true → k < 32 → v ≡ bytes_of x.plan k → (c room : List ℕ) {chars sum t : ℕ} {ok : Bool} → chars ≡ place x k 5 → chars ≤ length x.body
      → ((sum ≡ top → ⊥) → ((j : ℕ) → j < n → Rising v x.body at (length x.body - chars) (offset + start j) (size j)) × (sum ≡ sum_of (λ j. chars_of v x.body at (offset + start j) (size j)) n))
      → t ≡ grown (bytes c k) sum → ok ≡ ltb t (half v) → not ok ≡ false
      → Did x.plan x.parts false (stretches (λ a m d. batch_leaf x k a m d) start size n c) room 0 (add_rows k (sum_of size n) (set_bytes k t c)) room
  unfolding grown
  list_did text small wide c room {chars} {sum} {t} {ok} is-chars c-in told is-t is_ok yes-ok =
      let tv : t < half v = ltb-true t (half v) (yes is_ok yes-ok) in
      let tl : (t < far) × (t ≤ largest (bytes_of x.plan k)) = low (eqb (bytes_of x.plan k) 4) refl (rw wide at tv) in
      let tf = tl.0 in
      let not_top : sum ≡ top → ⊥ = λ z. omega arith in
      let known = rw (wide, is_at, offset_is) at (told not_top) in
      let i = near in
      let b = one in
      texts_tried x k text small end (length x.body - chars) (omega arith) (rw wide at standing) (omega arith) start size n c room {v = sum_of size n} {t = t}
      (λ j h. (within j h, (known.0 j h).0, (known.0 j h).1)) refl (let s = known.1 in omega arith) tl.1 refl
    where
      low : (u : Bool) → eqb (bytes_of x.plan k) 4 ≡ u → t < half (bytes_of x.plan k) → (t < far) × (t ≤ largest (bytes_of x.plan k))
      low true e h = let z : bytes_of x.plan k ≡ 4 = eqb-true (bytes_of x.plan k) 4 e in let g = rw z at h in (omega arith, rw z (omega arith))
      low false e h = let z : bytes_of x.plan k ≡ 8 = text_wide x.plan k refl text (eqb-false (bytes_of x.plan k) 4 e) in let g = rw z at h in (omega arith, rw z (omega arith))

-- the same, by what a list-view says of its child
pub told_did : (x : Join) (i w slot n : ℕ) (c room : List ℕ) (wr : Bool) (t : ℕ) {o z total : ℕ} {c1 c2 : List ℕ} → not wr ≡ true → o ≡ place x i 3 → z ≡ place x i 5
    → total ≡ grown 0 (sum_of (λ q. entry w x.body z (slot + q)) n) → sum_of (λ q. entry w x.body (place x i 5) (slot + q)) n < far
    → Did x.plan x.parts false (stretches (λ a m d. batch_leaf x (i + 1) a m d) (λ q. entry w x.body o (slot + q)) (λ q. entry w x.body z (slot + q)) n c) room 0
    (add_rows (i + 1) (sum_of (λ q. entry w x.body z (slot + q)) n) (set_bytes (i + 1) t c)) room
    → c1 ≡ set_bytes (i + 1) t c → c2 ≡ add_rows (i + 1) total c1
    → Did x.plan x.parts wr (stretches (λ a m d. batch_leaf x (suc i) a m d) (λ q. entry w x.body (place x i 3) (slot + q)) (λ q. entry w x.body (place x i 5) (slot + q)) n c) room 0 c2 room
unfolding grown
told_did x i w slot n c room wr t {o} {z} {total} {c1} {c2} h e f g l d p q =
    let s : sum_of (λ q. entry w x.body z (slot + q)) n ≡ sum_of (λ q. entry w x.body (place x i 5) (slot + q)) n = ap (λ y. sum_of (λ q. entry w x.body y (slot + q)) n) f in
    let b : total ≡ sum_of (λ q. entry w x.body z (slot + q)) n = omega arith in
    let all : c2 ≡ add_rows (i + 1) (sum_of (λ q. entry w x.body z (slot + q)) n) (set_bytes (i + 1) t c) = q ∙ ap (λ y. add_rows (i + 1) total y) p ∙ ap (λ y. add_rows (i + 1) y (set_bytes (i + 1) t c)) b in
    go wr h
    (subst (λ y. Did x.plan x.parts false (stretches (λ a m d. batch_leaf x y a m d) (λ q. entry w x.body (place x i 3) (slot + q)) (λ q. entry w x.body (place x i 5) (slot + q)) n c) room 0 c2 room) (add-one i)
    (subst (λ y. Did x.plan x.parts false (stretches (λ a m d. batch_leaf x (i + 1) a m d) (λ q. entry w x.body y (slot + q)) (λ q. entry w x.body (place x i 5) (slot + q)) n c) room 0 c2 room) e
    (subst (λ y. Did x.plan x.parts false (stretches (λ a m d. batch_leaf x (i + 1) a m d) (λ q. entry w x.body o (slot + q)) (λ q. entry w x.body y (slot + q)) n c) room 0 c2 room) f
    (subst (λ y. Did x.plan x.parts false (stretches (λ a m d. batch_leaf x (i + 1) a m d) (λ q. entry w x.body o (slot + q)) (λ q. entry w x.body z (slot + q)) n c) room 0 y room) (sym all) d))))
  where
    go : (u : Bool) → not u ≡ true → {out : Out} → Did x.plan x.parts false out room 0 c2 room → Did x.plan x.parts u out room 0 c2 room
    go false y k = k
    go true y k = let z0 : ◌≡◌ {A = ℕ} 0 1 = ap (λ b. cond b 1 0) y in absurd (omega arith)

-- the same, by what a dense union says of it
pub taken_did : (x : Join) (k : ℕ) (start size : ℕ → ℕ) (n : ℕ) (c room : List ℕ) (wr : Bool) (t : ℕ) {total : ℕ} {c1 c2 : List ℕ} → not wr ≡ true → total ≡ sum_of size n
    → Did x.plan x.parts false (stretches (λ a m d. batch_leaf x k a m d) start size n c) room 0 (add_rows k (sum_of size n) (set_bytes k t c)) room
    → c1 ≡ set_bytes k t c → c2 ≡ add_rows k total c1
    → Did x.plan x.parts wr (stretches (λ a m d. batch_leaf x k a m d) start size n c) room 0 c2 room
taken_did x k start size n c room wr t {total} {c1} {c2} h e d p q =
    go wr h (subst (λ y. Did x.plan x.parts false (stretches (λ a m d. batch_leaf x k a m d) start size n c) room 0 y room) (sym (q ∙ ap (λ y. add_rows k total y) p ∙ ap (λ y. add_rows k y (set_bytes k t c)) e)) d)
  where
    go : (u : Bool) → not u ≡ true → {out : Out} → Did x.plan x.parts false out room 0 c2 room → Did x.plan x.parts u out room 0 c2 room
    go false y k2 = k2
    go true y k2 = let z0 : ◌≡◌ {A = ℕ} 0 1 = ap (λ b. cond b 1 0) y in absurd (omega arith)
