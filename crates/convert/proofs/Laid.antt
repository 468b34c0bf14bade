-- Rows of a list column's root that are laid at once, and rows that are only tried. Assumes nothing.
use mathlib.Core.Path.{◌≡◌, refl, sym, ap, ap₂, subst, ◌∙◌}
use mathlib.Core.Bool.{Bool, true, false}
use mathlib.Core.List.{List, [], ◌∷◌}
use Prim.Native.Nat.{ℕ, zero, suc, ◌+◌, ◌-◌, ◌*◌, ◌≤◌, ◌<◌}
use native.Mathlib.Nat.{add_assoc, mul-add, mul_comm}
use native.Mathlib.Omega.{arith}
use lib.ListN.{length, drop}
use borrow.Author.Tests.{le-leb}
use Rattle.number.specs.Number.{number, entry, encode, splice}
use Rattle.number.proofs.Laws.{length_encode, length_splice}
use Rattle.walk.specs.State.{Join, place, offset_of}
use Rattle.walk.specs.Log.{Out, Did, put, start_of, in_room, enter, apply, apply_if, each}
use Rattle.walk.proofs.Laws.{wrote_did, next_ok, each_none, each_more}
use Rattle.convert.specs.convert_lists.Viewing.{start_at, next_at, view_row}
use Rattle.convert.specs.convert_lists.Laid.{laid_row, laid_rows}

-- ---- a walk that only tries

module _ (x : Join) (w : ℕ) (c room : List ℕ) where
  row_tried : (r : ℕ) → Did x.plan x.parts false (view_row x w r c) room 0 c room
  unfolding view_row apply_if
  row_tried r =
      next_ok _ (wrote_did false (put 0 1 (r * w) (encode w (start_at x w r))) c room room refl) refl
      (wrote_did false (put 0 2 (r * w) (encode w (next_at x w r - start_at x w r))) c room room refl)

  pub rows_tried : (n r : ℕ) → Did x.plan x.parts false (each (view_row x w) n r c) room 0 c room
  rows_tried zero r = each_none false (view_row x w) 0 r c room refl
  rows_tried (suc n) r = each_more false (view_row x w) (suc n) n r (r + 1) c room refl refl (row_tried r) refl (rows_tried n (r + 1))

-- ---- rows laid at once

put_in : (plan parts : List ℕ) (i b o : ℕ) (bs room : List ℕ) {a : ℕ} → a ≡ start_of plan parts i b + o → a + length bs ≤ length room
    → splice a bs room ≡ apply_if plan parts true (put i b o bs ∷ []) room
unfolding apply_if apply enter in_room
put_in plan parts i b o bs room e l = rw (le-leb (start_of plan parts i b + o + length bs) (length room) (omega (arith, e, l))) (ap (λ z. splice z bs room) e)

module _ (x : Join) (w at too from : ℕ) (ea : at ≡ start_of x.plan x.parts 0 1) (et : too ≡ start_of x.plan x.parts 0 2) (ef : from ≡ place x 0 3 + w * offset_of x 0) where
  starts : (r : ℕ) → entry w x.body from r ≡ start_at x w r
  starts r =
      let e : from + w * r ≡ place x 0 3 + w * (offset_of x 0 + r) = omega (arith, ef, mul-add w (offset_of x 0) r) in
      ap (λ k. number w (drop k x.body)) e

  nexts : (r : ℕ) → entry w x.body from (r + 1) ≡ next_at x w r
  nexts r = starts (r + 1) ∙ ap (entry w x.body (place x 0 3)) (sym (add_assoc (offset_of x 0) r 1))

  module _ (r : ℕ) (room : List ℕ) (la : at + w * (r + 1) ≤ length room) (lt : too + w * (r + 1) ≤ length room) where
    abbrev first : List ℕ
    first = splice (at + w * r) (encode w (entry w x.body from r)) room

    wide : w * (r + 1) ≡ w * r + w
    wide = let e : w * (r + 1) ≡ w * r + w * 1 = mul-add w r 1 in omega (arith, e)

    first_fits : at + w * r + length (encode w (entry w x.body from r)) ≤ length room
    first_fits = omega (arith, length_encode w (entry w x.body from r), wide, la)

    first_long : length first ≡ length room
    first_long = length_splice (at + w * r) (encode w (entry w x.body from r)) room first_fits

    abbrev size : ℕ
    size = entry w x.body from (r + 1) - entry w x.body from r

    second_fits : too + w * r + length (encode w size) ≤ length first
    second_fits = omega (arith, length_encode w size, wide, lt, first_long)

    pub row_long : length (laid_row w x.body from at too r room) ≡ length room
    row_long = length_splice (too + w * r) (encode w size) first second_fits ∙ first_long

    pub row_laid : (c : List ℕ) → Did x.plan x.parts true (view_row x w r c) room 0 c (laid_row w x.body from at too r room)
    unfolding view_row
    row_laid c =
        let p : at + w * r ≡ start_of x.plan x.parts 0 1 + r * w = omega (arith, ea, mul_comm w r) in
        let q : too + w * r ≡ start_of x.plan x.parts 0 2 + r * w = omega (arith, et, mul_comm w r) in
        let d : size ≡ next_at x w r - start_at x w r = ap₂ (λ m n. m - n) (nexts r) (starts r) in
        next_ok _
        (wrote_did true (put 0 1 (r * w) (encode w (start_at x w r))) c room first
        (put_in x.plan x.parts 0 1 (r * w) (encode w (entry w x.body from r)) room p first_fits ∙ ap (λ z. apply_if x.plan x.parts true (put 0 1 (r * w) (encode w z) ∷ []) room) (starts r)))
        refl
        (wrote_did true (put 0 2 (r * w) (encode w (next_at x w r - start_at x w r))) c first (laid_row w x.body from at too r room)
        (put_in x.plan x.parts 0 2 (r * w) (encode w size) first q second_fits ∙ ap (λ z. apply_if x.plan x.parts true (put 0 2 (r * w) (encode w z) ∷ []) first) d))

  ahead : (a n r m : ℕ) → a + w * (r + suc n) ≤ m → a + w * (r + 1) ≤ m
  ahead a n r m h =
      let e : w * (r + suc n) ≡ w * (r + 1) + w * n = ap (λ z. w * z) (let k : r + suc n ≡ r + 1 + n = omega arith in k) ∙ mul-add w (r + 1) n in
      omega (arith, e, h)

  behind : (a n r m m2 : ℕ) → m2 ≡ m → a + w * (r + suc n) ≤ m → a + w * (r + 1 + n) ≤ m2
  behind a n r m m2 e h =
      let k : r + 1 + n ≡ r + suc n = omega arith in
      subst (λ z. a + w * z ≤ m2) (sym k) (omega (arith, e, h))

  pub rows_laid : (n r : ℕ) (c room : List ℕ) → at + w * (r + n) ≤ length room → too + w * (r + n) ≤ length room
      → Did x.plan x.parts true (each (view_row x w) n r c) room 0 c (laid_rows w x.body from at too n r room)
  unfolding laid_rows
  rows_laid zero r c room la lt = each_none true (view_row x w) 0 r c room refl
  rows_laid (suc n) r c room la lt =
      let p = ahead at n r (length room) la in
      let q = ahead too n r (length room) lt in
      let l = row_long r room p q in
      each_more true (view_row x w) (suc n) n r (r + 1) c room refl refl (row_laid r room p q c) refl
      (rows_laid n (r + 1) c (laid_row w x.body from at too r room) (behind at n r (length room) _ l la) (behind too n r (length room) _ l lt))

  pub all_laid : (n : ℕ) (c room : List ℕ) → at + w * n ≤ length room → too + w * n ≤ length room
      → Did x.plan x.parts true (each (view_row x w) n 0 c) room 0 c (laid_rows w x.body from at too n 0 room)
  all_laid n c room la lt =
      let e : 0 + n ≡ n = omega arith in
      rows_laid n 0 c room (subst (λ k. at + w * k ≤ length room) (sym e) la) (subst (λ k. too + w * k ≤ length room) (sym e) lt)

-- ---- what a loop keeps: the rest from here is the whole

pub laid_none : (w : ℕ) (s : List ℕ) (from at too n r : ℕ) (room : List ℕ) → n ≡ 0 → laid_rows w s from at too n r room ≡ room
unfolding laid_rows
laid_none w s from at too n r room e = rw e

pub laid_more : (w : ℕ) (s : List ℕ) (from at too n n' r : ℕ) (room : List ℕ) → n ≡ suc n' → laid_rows w s from at too n r room ≡ laid_rows w s from at too n' (r + 1) (laid_row w s from at too r room)
unfolding laid_rows
laid_more w s from at too n n' r room e = rw e

-- one row more
pub laid_step : (w : ℕ) (s : List ℕ) (from at too n i : ℕ) (room : List ℕ) → i < n → {start after size : ℕ} {room1 room2 : List ℕ} → start ≡ entry w s from i → after ≡ entry w s from (i + 1) → size ≡ after - start
    → room1 ≡ splice (at + w * i) (encode w start) room → room2 ≡ splice (too + w * i) (encode w size) room1
    → laid_rows w s from at too (n - (i + 1)) (i + 1) room2 ≡ laid_rows w s from at too (n - i) i room
laid_step w s from at too n i room l es ea ez h k =
    let e : _ ≡ laid_row w s from at too i room = k ∙ ap₂ (λ v q. splice (too + w * i) (encode w v) q) (ez ∙ ap₂ (λ a b. a - b) ea es) (h ∙ ap (λ v. splice (at + w * i) (encode w v) room) es) in
    ap (laid_rows w s from at too (n - (i + 1)) (i + 1)) e ∙ sym (laid_more w s from at too (n - i) (n - (i + 1)) i room (omega arith))

-- a part's first byte

pub part_at : {a s : ℕ} → a ≡ s + 0 → a ≡ s
part_at e = omega (arith, e)

-- a walk by another name of whether it writes
pub did_write : {plan parts : List ℕ} {a b : Bool} {o : Out} {room : List ℕ} {r : ℕ} {c room2 : List ℕ} → a ≡ b → Did plan parts b o room r c room2 → Did plan parts a o room r c room2
did_write {plan} {parts} {a} {b} {o} {room} {r} {c} {room2} e d = subst (λ y. Did plan parts y o room r c room2) (sym e) d
