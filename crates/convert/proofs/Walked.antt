-- The walk of a list-view column, by the ways that the code goes. Assumes nothing.
use mathlib.Core.Path.{◌≡◌, refl, sym, ap, ap₂, subst, ◌∙◌}
use mathlib.Core.Bool.{Bool, true, false, not, ◌&&◌}
use mathlib.Core.List.{List, [], ◌∷◌}
use Prim.Native.Nat.{ℕ, suc, ◌+◌, ◌*◌, ◌≤◌, ◌<◌}
use native.Mathlib.Numerals.{add-one}
use native.Mathlib.Nat.{add-zero, mul_comm, mul-le-mul_right}
use native.Mathlib.Omega.{arith}
use lib.ListN.{length, get_or}
use lib.Dec.{ltb, eqb}
use borrow.Author.Tests.{leb-true, eqb-true, eqb-false}
use Rattle.number.specs.Number.{entry, encode}
use Rattle.columnar.specs.Types.{half}
use Rattle.columnar.specs.Array.{ok}
use Rattle.array_data.proofs.lent_tables.Laws.{no, yes, and_left, and_right}
use Rattle.walk.specs.State.{Join, bytes_of, rows, add_rows, place, length_of, offset_of, rows_in}
use Rattle.walk.specs.Log.{Did, put, apply_if, done, each}
use Rattle.walk.specs.Leaves.{copy_mask}
use Rattle.walk.specs.Copy.{copy_walk}
use Rattle.walk.proofs.Laws.{done_did, wrote_did, need_no, need_ok, next_no, next_ok}
use Rattle.plan.specs.parts.Parts.{nodes_of}
use Rattle.refinement.specs.orders.Order.{Lent, join_of}
use Rattle.refinement.specs.opening.Open.{first_offset}
use Rattle.convert.specs.convert_lists.Listing as walks
use Rattle.convert.specs.convert_lists.Listing.{end_row, copy_row, list_row, list_rows, list_walk}

module _ (x : Join) (wr : Bool) (w r : ℕ) (c room : List ℕ) where
  abbrev Done : ℕ → List ℕ → List ℕ → Type 0
  Done = Did x.plan x.parts wr (list_row x w r c) room

  -- ---- the offset behind a row

  pub end_did : {o v : ℕ} {room2 : List ℕ} → o ≡ (r + 1) * w → v ≡ rows c 1 → room2 ≡ apply_if x.plan x.parts wr (put 0 1 o (encode w v) ∷ []) room
      → Did x.plan x.parts wr (end_row x w r c) room 0 c room2
  unfolding end_row
  end_did e f h = wrote_did wr (put 0 1 (suc r * w) (encode w (rows c 1))) c room _ (h ∙ ap₂ (λ o v. apply_if x.plan x.parts wr (put 0 1 o (encode w v) ∷ []) room) (e ∙ ap (◌* w) (add-one r)) f)

  -- ---- a valid row

  module _ {v size : ℕ} (e : v ≡ rows c 1) (s : size ≡ walks.size_at x w r) {t : Bool} (f : t ≡ ltb (v + size) (half w)) where
    fits_as : ltb (rows c 1 + walks.size_at x w r) (half w) ≡ ltb (v + size) (half w)
    fits_as = ap₂ (λ a b. ltb (a + b) (half w)) (sym e) (sym s)

    pub copy_six : not t ≡ true → Did x.plan x.parts wr (copy_row x w r c) room 6 c room
    unfolding copy_row
    copy_six h = need_no _ (fits_as ∙ no f h)

    module _ (h : not t ≡ false) {offset g : ℕ} {c2 room2 : List ℕ} (o : offset ≡ walks.offset_at x w r) (d : Did x.plan x.parts wr (copy_walk x 7 1 offset size c) room g c2 room2) where
      copied : Did x.plan x.parts wr (copy_walk x 7 1 (walks.offset_at x w r) (walks.size_at x w r) c) room g c2 room2
      copied = subst (λ a. Did x.plan x.parts wr (copy_walk x 7 1 a (walks.size_at x w r) c) room g c2 room2) o (subst (λ b. Did x.plan x.parts wr (copy_walk x 7 1 offset b c) room g c2 room2) s d)

      pub copy_stop : (g ≡ 0 → ⊥) → Did x.plan x.parts wr (copy_row x w r c) room g c2 room2
      unfolding copy_row
      copy_stop z = need_ok 6 c (fits_as ∙ yes f h) (next_no _ copied z)

      pub copy_done : {room3 : List ℕ} → g ≡ 0 → Did x.plan x.parts wr (end_row x w r c2) room2 0 c2 room3 → Did x.plan x.parts wr (copy_row x w r c) room 0 c2 room3
      unfolding copy_row
      copy_done z n = need_ok 6 c (fits_as ∙ yes f h) (next_ok _ copied z n)

  -- ---- a row

  module _ {t : Bool} (e : t ≡ ok (walks.validity x w) (offset_of x 0 + r)) {g : ℕ} {c2 room2 : List ℕ} where
    pub row_valid : t ≡ true → Did x.plan x.parts wr (copy_row x w r c) room g c2 room2 → Done g c2 room2
    unfolding list_row
    row_valid h d = rw (sym e ∙ h) d

    pub row_null : t ≡ false → Did x.plan x.parts wr (end_row x w r c) room g c2 room2 → Done g c2 room2
    unfolding list_row
    row_null h d = rw (sym e ∙ h) d

-- ---- all rows

module _ (x : Join) (wr : Bool) (w n : ℕ) (c room : List ℕ) {t : Bool} (slot : ℕ) (s : slot ≡ offset_of x 0)
    (e : t ≡ (rows_in x (place x 0 3) w slot n && rows_in x (place x 0 5) w slot n)) where
  held : {b : Bool} → (rows_in x (place x 0 3) w slot n && rows_in x (place x 0 5) w slot n) ≡ b → (rows_in x (place x 0 3) w (offset_of x 0) n && rows_in x (place x 0 5) w (offset_of x 0) n) ≡ b
  held {b} h = subst (λ k. (rows_in x (place x 0 3) w k n && rows_in x (place x 0 5) w k n) ≡ b) s h

  pub rows_short : not t ≡ true → Did x.plan x.parts wr (list_rows x w n c) room 12 c room
  unfolding list_rows
  rows_short h = need_no _ (held (no e h))

  pub rows_all : not t ≡ false → {g : ℕ} {c2 room2 : List ℕ} → Did x.plan x.parts wr (each (list_row x w) n 0 c) room g c2 room2 → Did x.plan x.parts wr (list_rows x w n c) room g c2 room2
  unfolding list_rows
  rows_all h d = need_ok 12 c (held (yes e h)) d

-- what rows that stand in the body say of one of them
module _ (x : Join) (w slot n r : ℕ) {t : Bool} (e : t ≡ (rows_in x (place x 0 3) w slot n && rows_in x (place x 0 5) w slot n)) (h : not t ≡ false) (l : r < n) where
  one_in_lem : (at : ℕ) → rows_in x at w slot n ≡ true → at + w * (slot + r + 1) ≤ length x.body
  unfolding rows_in
  one_in_lem at q =
      let a = leb-true (at + w * (slot + n)) (length x.body) q in
      let b : (slot + r + 1) * w ≤ (slot + n) * w = mul-le-mul_right w (omega arith) in
      omega (arith, a, b, mul_comm w (slot + r + 1), mul_comm w (slot + n))

  pub row_first : place x 0 3 + w * (slot + r + 1) ≤ length x.body
  row_first = one_in_lem (place x 0 3) (and_left _ _ (yes e h))

  pub row_second : place x 0 5 + w * (slot + r + 1) ≤ length x.body
  row_second = one_in_lem (place x 0 5) (and_right (rows_in x (place x 0 3) w slot n) _ (yes e h))

  pub row_size : (r + 1) * w ≤ length x.body
  row_size =
      let b : (r + 1) * w ≤ (slot + r + 1) * w = mul-le-mul_right w (omega arith) in
      omega (arith, row_first, b, mul_comm w (slot + r + 1))

-- ---- the whole

module _ (l : Lent) (wr : Bool) (c room : List ℕ) {room1 : List ℕ} (z : Did l.plan l.parts wr (each (first_offset l) (nodes_of l.plan) 0 c) room 0 c room1)
    (slot n : ℕ) (s : slot ≡ offset_of (join_of l 0) 0) (k : n ≡ length_of (join_of l 0) 0) {g : ℕ} {c2 room2 : List ℕ} (d : Did l.plan l.parts wr (copy_mask (join_of l 0) 0 slot n c) room1 g c2 room2) where
  masked : Did l.plan l.parts wr (copy_mask (join_of l 0) 0 (offset_of (join_of l 0) 0) (length_of (join_of l 0) 0) c) room1 g c2 room2
  masked = subst (λ a. Did l.plan l.parts wr (copy_mask (join_of l 0) 0 a (length_of (join_of l 0) 0) c) room1 g c2 room2) s (subst (λ b. Did l.plan l.parts wr (copy_mask (join_of l 0) 0 slot b c) room1 g c2 room2) k d)

  pub walk_mask : (g ≡ 0 → ⊥) → Did l.plan l.parts wr (list_walk l c) room g c2 room2
  unfolding list_walk
  walk_mask h = next_ok _ z refl (next_no _ masked h)

  module _ (h : g ≡ 0) (w : ℕ) (b : w ≡ bytes_of l.plan 0) {g2 : ℕ} {c3 room3 : List ℕ} (f : Did l.plan l.parts wr (list_rows (join_of l 0) w n c2) room2 g2 c3 room3) where
    listed : Did l.plan l.parts wr (list_rows (join_of l 0) (bytes_of l.plan 0) (length_of (join_of l 0) 0) c2) room2 g2 c3 room3
    listed = subst (λ a. Did l.plan l.parts wr (list_rows (join_of l 0) a (length_of (join_of l 0) 0) c2) room2 g2 c3 room3) b (subst (λ m. Did l.plan l.parts wr (list_rows (join_of l 0) w m c2) room2 g2 c3 room3) k f)

    pub walk_rows : (g2 ≡ 0 → ⊥) → Did l.plan l.parts wr (list_walk l c) room g2 c3 room3
    unfolding list_walk
    walk_rows i = next_ok _ z refl (next_ok _ masked h (next_no _ listed i))

    pub walk_done : g2 ≡ 0 → {c4 : List ℕ} → c4 ≡ add_rows 0 n c3 → Did l.plan l.parts wr (list_walk l c) room 0 c4 room3
    unfolding list_walk
    walk_done i e =
        next_ok _ z refl (next_ok _ masked h (next_ok _ listed i
        (subst (λ a. Did l.plan l.parts wr (done (add_rows 0 (length_of (join_of l 0) 0) c3)) room3 0 a room3) (ap (λ m. add_rows 0 m c3) (sym k) ∙ sym e) (done_did wr (add_rows 0 (length_of (join_of l 0) 0) c3) room3))))

-- ---- entries of the root's buffers

module _ (x : Join) (w slot r : ℕ) where
  -- the place of the root's buffer, as the tables have it
  abbrev root : ℕ → ℕ
  root j = get_or x.places (9 * x.first + j) 0

  root_is : (j : ℕ) → place x 0 j ≡ root j
  root_is j = ap (λ k. get_or x.places (9 * k + j) 0) (add-zero x.first)

  pub entry_fits : (j : ℕ) {at : ℕ} → at ≡ root j → place x 0 j + w * (slot + r + 1) ≤ length x.body → at + w * (slot + r + 1) ≤ length x.body
  entry_fits j e h = omega (arith, e, root_is j, h)

  pub offset_as : {at v : ℕ} → slot ≡ offset_of x 0 → at ≡ root 3 → v ≡ entry w x.body at (slot + r) → v ≡ walks.offset_at x w r
  offset_as s e f = f ∙ ap₂ (λ a k. entry w x.body a (k + r)) (e ∙ sym (root_is 3)) s

  pub size_as : {at v : ℕ} → slot ≡ offset_of x 0 → at ≡ root 5 → v ≡ entry w x.body at (slot + r) → v ≡ walks.size_at x w r
  size_as s e f = f ∙ ap₂ (λ a k. entry w x.body a (k + r)) (e ∙ sym (root_is 5)) s

  -- the root's length and offset likewise
  pub slot_as : {v : ℕ} → v ≡ get_or x.lengths (2 * x.first + 1) 0 → v ≡ offset_of x 0
  slot_as e = e ∙ ap (λ k. get_or x.lengths (2 * k + 1) 0) (sym (add-zero x.first))

  pub length_as : {v : ℕ} → v ≡ get_or x.lengths (2 * x.first) 0 → v ≡ length_of x 0
  length_as e = e ∙ ap (λ k. get_or x.lengths (2 * k) 0) (sym (add-zero x.first))

-- an entry of 4 or 8 bytes
pub wide_small : (w : ℕ) → ((w ≡ 4 → ⊥) → w ≡ 8) → w ≤ 16
wide_small w h = go (eqb w 4) refl
  where
    go : (b : Bool) → eqb w 4 ≡ b → w ≤ 16
    go true e = omega (arith, eqb-true w 4 e)
    go false e = omega (arith, h (eqb-false w 4 e))

pub wide_as : {w v : ℕ} → w ≡ v → ((v ≡ 4 → ⊥) → v ≡ 8) → (w ≡ 4 → ⊥) → w ≡ 8
wide_as e h k = e ∙ h (λ z. k (e ∙ z))
