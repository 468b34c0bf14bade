-- The walk of a list column's root, by the ways that the code goes. Assumes nothing.
use mathlib.Core.Path.{◌≡◌, refl, sym, ap, ap₂, subst, ◌∙◌}
use mathlib.Core.Bool.{Bool, true, false, not}
use mathlib.Core.List.{List, [], ◌∷◌}
use Prim.Native.Nat.{ℕ, suc, ◌+◌, ◌-◌, ◌*◌, ◌≤◌, ◌<◌, ◌^◌}
use native.Mathlib.Numerals.{add-one}
use native.Mathlib.Nat.{add-zero, mul_comm, mul-le-mul_right}
use native.Mathlib.Omega.{arith}
use lib.ListN.{length, get_or}
use borrow.Author.Tests.{leb-true, ne_eqb}
use Rattle.number.specs.Number.{entry, encode}
use Rattle.array_data.proofs.lent_tables.Laws.{no, yes}
use Rattle.walk.specs.State.{Join, bytes_of, add_rows, place, length_of, offset_of, rows_in}
use Rattle.walk.specs.Log.{Did, put, apply_if, done, each}
use Rattle.walk.specs.Leaves.{copy_mask}
use Rattle.walk.proofs.Laws.{done_did, wrote_did, need_no, need_ok, next_no, next_ok}
use Rattle.convert.specs.convert_lists.Viewing.{start_at, next_at, view_row, view_rows, view_walk}

module _ (x : Join) where
  -- where the root's offsets begin, as the tables have it
  abbrev pub root : ℕ
  root = get_or x.places (9 * x.first + 3) 0

  pub root_is : place x 0 3 ≡ root
  root_is = ap (λ k. get_or x.places (9 * k + 3) 0) (add-zero x.first)

-- ---- a row

module _ (x : Join) (w slot r : ℕ) {at : ℕ} (e : at ≡ root x) (h : place x 0 3 + w * (slot + r + 2) ≤ length x.body) where
  pub start_fits : at + w * (slot + r + 1) ≤ length x.body
  start_fits =
      let b : (slot + r + 1) * w ≤ (slot + r + 2) * w = mul-le-mul_right w (omega arith) in
      omega (arith, e, root_is x, h, b, mul_comm w (slot + r + 1), mul_comm w (slot + r + 2))

  pub next_fits : at + w * (slot + r + 1 + 1) ≤ length x.body
  next_fits =
      let b : slot + r + 1 + 1 ≡ slot + r + 2 = omega arith in
      rw b (omega (arith, e, root_is x, h))

pub row_small : (w r : ℕ) → (r + 1) * w < 2 ^ 64 → r * w < 2 ^ 64
row_small w r h = let b : r * w ≤ (r + 1) * w = mul-le-mul_right w (omega arith) in omega (arith, h, b)

pub view_did : (x : Join) (wr : Bool) (w r : ℕ) (c room : List ℕ) (slot : ℕ) → slot ≡ offset_of x 0 → {at : ℕ} → at ≡ root x → {start after size o : ℕ} → start ≡ entry w x.body at (slot + r)
    → after ≡ entry w x.body at (slot + r + 1) → o ≡ r * w → {room1 room2 : List ℕ} → room1 ≡ apply_if x.plan x.parts wr (put 0 1 o (encode w start) ∷ []) room → size ≡ after - start
    → room2 ≡ apply_if x.plan x.parts wr (put 0 2 o (encode w size) ∷ []) room1 → Did x.plan x.parts wr (view_row x w r c) room 0 c room2
unfolding view_row
view_did x wr w r c room slot s e {start} {after} {size} {o} f g eo {room1} {room2} h es k =
    let a : start ≡ start_at x w r = f ∙ ap₂ (λ p q. entry w x.body p (q + r)) (e ∙ sym (root_is x)) s in
    let b : after ≡ next_at x w r = g ∙ ap₂ (λ p q. entry w x.body p (q + r + 1)) (e ∙ sym (root_is x)) s in
    let d : size ≡ next_at x w r - start_at x w r = es ∙ ap₂ (λ m n. m - n) b a in
    next_ok _ (wrote_did wr (put 0 1 (r * w) (encode w (start_at x w r))) c room _ (h ∙ ap₂ (λ p q. apply_if x.plan x.parts wr (put 0 1 p (encode w q) ∷ []) room) eo a)) refl
    (wrote_did wr (put 0 2 (r * w) (encode w (next_at x w r - start_at x w r))) c room1 room2 (k ∙ ap₂ (λ p q. apply_if x.plan x.parts wr (put 0 2 p (encode w q) ∷ []) room1) eo d))

-- ---- all rows

module _ (x : Join) (wr : Bool) (w n : ℕ) (c room : List ℕ) where
  pub rows_none : n ≡ 0 → Did x.plan x.parts wr (view_rows x w n c) room 0 c room
  unfolding view_rows
  rows_none h = rw h (done_did wr c room)

  module _ (some : n ≡ 0 → ⊥) (slot : ℕ) (s : slot ≡ offset_of x 0) {at : ℕ} (e : at ≡ root x) {t : Bool} (f : t ≡ rows_in x at w slot (n + 1)) where
    held : {b : Bool} → rows_in x at w slot (n + 1) ≡ b → rows_in x (place x 0 3) w (offset_of x 0) (suc n) ≡ b
    held {b} q =
        subst (λ k. rows_in x (place x 0 3) w (offset_of x 0) k ≡ b) (add-one n)
        (subst (λ k. rows_in x (place x 0 3) w k (n + 1) ≡ b) s (subst (λ k. rows_in x k w slot (n + 1) ≡ b) (e ∙ sym (root_is x)) q))

    pub rows_short : not t ≡ true → Did x.plan x.parts wr (view_rows x w n c) room 12 c room
    unfolding view_rows
    rows_short h = rw (ne_eqb n 0 some) (need_no _ (held (no f h)))

    pub rows_all : not t ≡ false → {g : ℕ} {c2 room2 : List ℕ} → Did x.plan x.parts wr (each (view_row x w) n 0 c) room g c2 room2 → Did x.plan x.parts wr (view_rows x w n c) room g c2 room2
    unfolding view_rows
    rows_all h d = rw (ne_eqb n 0 some) (need_ok 12 c (held (yes f h)) d)

-- rows that stand in the body
pub rows_stand : (x : Join) (w slot n : ℕ) {at : ℕ} → at ≡ root x → {t : Bool} → t ≡ rows_in x at w slot (n + 1) → not t ≡ false → place x 0 3 + w * (slot + (n + 1)) ≤ length x.body
unfolding rows_in
rows_stand x w slot n {at} e f h = let a = leb-true (at + w * (slot + (n + 1))) (length x.body) (yes f h) in omega (arith, a, e, root_is x)

-- .. and what they say of one of them
module _ (x : Join) (w slot n r : ℕ) (h : place x 0 3 + w * (slot + (n + 1)) ≤ length x.body) (l : r < n) where
  pub row_in : place x 0 3 + w * (slot + r + 2) ≤ length x.body
  row_in =
      let b : (slot + r + 2) * w ≤ (slot + (n + 1)) * w = mul-le-mul_right w (omega arith) in
      omega (arith, h, b, mul_comm w (slot + r + 2), mul_comm w (slot + (n + 1)))

  pub row_size : (r + 1) * w ≤ length x.body
  row_size =
      let b : (r + 1) * w ≤ (slot + r + 2) * w = mul-le-mul_right w (omega arith) in
      omega (arith, row_in, b, mul_comm w (slot + r + 2))

-- ---- the whole

module _ (x : Join) (wr : Bool) (c room : List ℕ) (slot n : ℕ) (s : slot ≡ offset_of x 0) (k : n ≡ length_of x 0) {g : ℕ} {c2 room2 : List ℕ} (d : Did x.plan x.parts wr (copy_mask x 0 slot n c) room g c2 room2) where
  masked : Did x.plan x.parts wr (copy_mask x 0 (offset_of x 0) (length_of x 0) c) room g c2 room2
  masked = subst (λ a. Did x.plan x.parts wr (copy_mask x 0 a (length_of x 0) c) room g c2 room2) s (subst (λ b. Did x.plan x.parts wr (copy_mask x 0 slot b c) room g c2 room2) k d)

  pub walk_mask : (g ≡ 0 → ⊥) → Did x.plan x.parts wr (view_walk x (bytes_of x.plan 0) c) room g c2 room2
  unfolding view_walk
  walk_mask h = next_no _ masked h

  module _ (h : g ≡ 0) (w : ℕ) (b : w ≡ bytes_of x.plan 0) {g2 : ℕ} {room3 : List ℕ} (f : Did x.plan x.parts wr (view_rows x w n c2) room2 g2 c2 room3) where
    viewed : Did x.plan x.parts wr (view_rows x (bytes_of x.plan 0) (length_of x 0) c2) room2 g2 c2 room3
    viewed = subst (λ a. Did x.plan x.parts wr (view_rows x a (length_of x 0) c2) room2 g2 c2 room3) b (subst (λ m. Did x.plan x.parts wr (view_rows x w m c2) room2 g2 c2 room3) k f)

    pub walk_rows : (g2 ≡ 0 → ⊥) → Did x.plan x.parts wr (view_walk x (bytes_of x.plan 0) c) room g2 c2 room3
    unfolding view_walk
    walk_rows i = next_ok _ masked h (next_no _ viewed i)

    pub walk_done : g2 ≡ 0 → {c4 : List ℕ} → c4 ≡ add_rows 0 n c2 → Did x.plan x.parts wr (view_walk x (bytes_of x.plan 0) c) room 0 c4 room3
    unfolding view_walk
    walk_done i e =
        next_ok _ masked h (next_ok _ viewed i
        (subst (λ a. Did x.plan x.parts wr (done (add_rows 0 (length_of x 0) c2)) room3 0 a room3) (ap (λ m. add_rows 0 m c2) (sym k) ∙ sym e) (done_did wr (add_rows 0 (length_of x 0) c2) room3)))
