-- Copies of bytes by words, which may overlap. Assumes nothing.
use mathlib.Core.Path.{◌≡◌, sym, ap, subst, ◌∙◌}
use mathlib.Core.List.{List, ◌++◌, append_assoc}
use Prim.Native.Nat.{ℕ, ◌+◌, ◌-◌, ◌≤◌}
use native.Mathlib.Omega.{arith}
use lib.ListN.{length, take, drop, length-append, length-drop}
use lib.Seq.{drop-drop, take_at, length-take-le, drop-append-add}
use Rattle.number.specs.Number.{splice}
use Rattle.number.proofs.Laws.{length_splice}
use Rattle.batch.proofs.Splices.{copy_copy}

-- what is written over is as if it had not been written
splice_again : (at : ℕ) (p q s : List ℕ) → length p ≤ length q → at + length q ≤ length s → splice at q (splice at p s) ≡ splice at q s
unfolding splice
splice_again at p q s h g =
    let e : length (take at s ++ p) ≡ at + length p = simp (length-append, length-take-le at s (omega arith)) in
    let f : at + length q ≡ at + length p + (length q - length p) = omega arith in
    let d : drop (at + length p + (length q - length p)) (take at s ++ p ++ drop (at + length p) s) ≡ drop (at + length p + (length q - length p)) s = rw (← e, drop-append-add, e, drop-drop) in
    let t : take at (take at s ++ p ++ drop (at + length p) s) ≡ take at s = rw (append_assoc) (take_at (take at s) (p ++ drop (at + length p) s) at (length-take-le at s (omega arith))) in
    ap (λ z. z ++ q ++ drop (at + length q) (take at s ++ p ++ drop (at + length p) s)) t
    ∙ ap (λ z. take at s ++ q ++ z) (subst (λ v. drop v (take at s ++ p ++ drop (at + length p) s) ≡ drop v s) (sym f) d)

module _ (room body : List ℕ) (at from : ℕ) where
  -- p bytes, and r of them from byte q on, are q + r
  copied_over : (p q r : ℕ) → q ≤ p → p ≤ q + r → at + q + r ≤ length room → from + q + r ≤ length body
      → splice (at + q) (take r (drop (from + q) body)) (splice at (take p (drop from body)) room) ≡ splice at (take (q + r) (drop from body)) room
  copied_over p q r h g i j =
      let e : q + (p - q) ≡ p = omega arith in
      let first : splice at (take p (drop from body)) room ≡ splice (at + q) (take (p - q) (drop (from + q) body)) (splice at (take q (drop from body)) room)
      = sym (subst (λ v. splice (at + q) (take (p - q) (drop (from + q) body)) (splice at (take q (drop from body)) room) ≡ splice at (take v (drop from body)) room) e (copy_copy room body at from q (p - q) (omega arith) (omega arith))) in
      let l : length (take q (drop from body)) ≡ q = length-take-le q (drop from body) (rw length-drop (omega arith)) in
      let s : length (splice at (take q (drop from body)) room) ≡ length room = length_splice at (take q (drop from body)) room (rw l (omega arith)) in
      let m : length (take (p - q) (drop (from + q) body)) ≡ p - q = length-take-le (p - q) (drop (from + q) body) (rw length-drop (omega arith)) in
      let n : length (take r (drop (from + q) body)) ≡ r = length-take-le r (drop (from + q) body) (rw length-drop (omega arith)) in
      ap (λ z. splice (at + q) (take r (drop (from + q) body)) z) first
      ∙ splice_again (at + q) (take (p - q) (drop (from + q) body)) (take r (drop (from + q) body)) (splice at (take q (drop from body)) room) (rw (m, n) (omega arith)) (rw (n, s) (omega arith))
      ∙ copy_copy room body at from q r (omega arith) (omega arith)

  -- the first w of n bytes and the last w
  pub ends_are : (n w : ℕ) {room1 room2 : List ℕ} → w ≤ n → n ≤ w + w → at + n ≤ length room → from + n ≤ length body
      → room1 ≡ splice at (take w (drop from body)) room → room2 ≡ splice (at + (n - w)) (take w (drop (from + (n - w)) body)) room1
      → room2 ≡ splice at (take n (drop from body)) room
  ends_are n w h g i j e f =
      let s : n - w + w ≡ n = omega arith in
      f
      ∙ ap (λ z. splice (at + (n - w)) (take w (drop (from + (n - w)) body)) z) e
      ∙ subst (λ v. splice (at + (n - w)) (take w (drop (from + (n - w)) body)) (splice at (take w (drop from body)) room) ≡ splice at (take v (drop from body)) room) s (copied_over w (n - w) w (omega arith) (omega arith) (omega arith) (omega arith))

  -- two words
  pub pair_is : (w : ℕ) {room1 room2 : List ℕ} → at + w + w ≤ length room → from + w + w ≤ length body
      → room1 ≡ splice at (take w (drop from body)) room → room2 ≡ splice (at + w) (take w (drop (from + w) body)) room1
      → room2 ≡ splice at (take (w + w) (drop from body)) room
  pair_is w h g e f = f ∙ ap (λ z. splice (at + w) (take w (drop (from + w) body)) z) e ∙ copy_copy room body at from w w h g
