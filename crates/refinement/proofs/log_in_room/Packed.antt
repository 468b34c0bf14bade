-- The bytes of a validity that lies in the room: those of the model's `pack`. Assumes nothing.
use mathlib.Core.Path.{◌≡◌, refl, sym, ap, ◌∙◌}
use mathlib.Core.Bool.{Bool, true, false}
use mathlib.Core.List.{List, [], ◌∷◌, map}
use Prim.Native.Nat.{ℕ, zero, suc, ◌+◌, ◌*◌, ◌/◌, ◌%◌, ◌^◌, ◌≤◌, ◌<◌}
use native.Mathlib.Nat.{zero-add, pow-zero, pow-succ', div-one, div-div-eq-div-mul}
use native.Mathlib.Numerals.{add-one}
use native.Mathlib.Omega.{arith}
use lib.ListN.{length, take, drop, get_or, length-drop, length-map, get_or-map, get_or-eq_default}
use lib.Seq.{get_or-take, get_or-drop, ext_get_or, length-take-le}
use lib.Arith.{lt-one}
use lib.Pow.{shr_lt}
use lib.Dec.{ltb}
use borrow.Author.Tests.{ltb-true, ltb-false}
use Rattle.bits.specs.Bits.{bits}
use Rattle.bits.proofs.Laws.{bit_at}
use Rattle.bits.proofs.Puts.{bits_at_at}
use Rattle.columnar.specs.Row.{seg}
use Rattle.model.specs.Mutable.{bits_number, pack}
use Rattle.model.proofs.Bits.{length_seg, get_d_seg}
use Rattle.refinement.specs.walk_is_model.Holds.{flag}
use Rattle.refinement.specs.walk_is_model.Memory.{Memory}
use Rattle.walk.specs.Log.{start_of}
use Rattle.refinement.specs.log_in_room.Room.{size_of, AllBelow, HasBits, Placed, Lies, Fits}

number_none : (n : ℕ) → bits_number n [] ≡ 0
number_none zero = refl
number_none (suc n) = refl

half_digit : (b j : ℕ) → b / 2 ^ suc j % 2 ≡ b / 2 / 2 ^ j % 2
half_digit b j = rw (pow-succ', ← div-div-eq-div-mul)

first_digit : (b : ℕ) → b / 2 ^ 0 % 2 ≡ b % 2
first_digit b = rw (pow-zero, div-one)

-- a number is that of its digits
digits_number : (n b : ℕ) (l : List Bool) → b < 2 ^ n → ((j : ℕ) → j < n → b / 2 ^ j % 2 ≡ flag (get_or l j false)) → b ≡ bits_number n l
digits_number zero b l h d = lt-one h
digits_number (suc n) b [] h d =
    let e = first_digit b in
    let f = d 0 (omega arith) in
    let s : b / 2 < 2 ^ n = shr_lt n 1 (rw add-one h) in
    let r = digits_number n (b / 2) [] s (λ j q. sym (half_digit b j) ∙ d (suc j) (omega arith)) in
    let z = number_none n in
    omega arith
digits_number (suc n) b (x ∷ l) h d =
    let e = first_digit b in
    let f = d 0 (omega arith) in
    let s : b / 2 < 2 ^ n = shr_lt n 1 (rw add-one h) in
    let r = digits_number n (b / 2) l s (λ j q. sym (half_digit b j) ∙ d (suc j) (omega arith)) in
    omega arith

module _ (start : ℕ) (l : List Bool) (room : List ℕ) (h : HasBits start (map flag l) room) where
  -- bit q, those past the length included
  bit_of_lem : (q : ℕ) → q < 8 * ((length l + 7) / 8) → get_or (bits room) (8 * start + q) 0 ≡ flag (get_or l q false)
  bit_of_lem q k = go (ltb q (length l)) refl
    where
      n : length (map flag l) ≡ length l
      n = length-map l flag

      go : (t : Bool) → ltb q (length l) ≡ t → get_or (bits room) (8 * start + q) 0 ≡ flag (get_or l q false)
      go true e =
          sym (bits_at_at (8 * start) (length (map flag l)) q room (omega (arith, n, ltb-true q (length l) e)))
          ∙ ap (λ s. get_or s q 0) h.run
          ∙ get_or-map flag l q false
      go false e =
          h.rest q (omega (arith, n, ltb-false q (length l) e)) (rw n k)
          ∙ ap flag (sym (get_or-eq_default l false (ltb-false q (length l) e)))

  -- THE BYTES OF A VALIDITY
  pub has_pack : AllBelow 256 room → start + (length l + 7) / 8 ≤ length room → take ((length l + 7) / 8) (drop start room) ≡ pack l
  unfolding pack
  has_pack small inside =
      ext_get_or 0 (take m (drop start room)) (seg f 0 m) (n1 ∙ sym (length_seg f 0 m))
      (λ k q.
      let u : k < m = omega (arith, n1) in
      rw (get_or-take m (drop start room) k 0 u, get_or-drop start room k 0, get_d_seg f 0 m k 0 u, zero-add)
      (digits_number 8 (get_or room (start + k) 0) (drop (8 * k) l) (small (start + k))
      (λ j p.
      let d : (8 * start + (8 * k + j)) / 8 ≡ start + k = omega arith in
      let r : (8 * start + (8 * k + j)) % 8 ≡ j = omega arith in
      let e = bit_at room (8 * start + (8 * k + j)) in
      sym (rw (d, r) at e) ∙ bit_of_lem (8 * k + j) (omega arith) ∙ ap flag (sym (get_or-drop (8 * k) l j false)))))
    where
      m : ℕ
      m = (length l + 7) / 8

      f : ℕ → ℕ
      f k = bits_number 8 (drop (8 * k) l)

      n1 : length (take m (drop start room)) ≡ m
      n1 = length-take-le m (drop start room) (rw length-drop (omega arith))

-- the validity of a node, where the room holds the memory
pub lies_pack : (plan parts : List ℕ) (Used : ℕ → ℕ → Type 0) (room : List ℕ) (μ : Memory) → Placed plan parts Used (length room) → Lies plan parts Used room μ → Fits plan parts Used μ
    → (i : ℕ) → Used i 0 → (l : List Bool) → μ.bits i ≡ map flag l → take ((length l + 7) / 8) (drop (start_of plan parts i 0) room) ≡ pack l
lies_pack plan parts Used room μ placed held fits i u l e =
    let n : length (map flag l) ≡ length l = length-map l flag in
    let f : length (map flag l) ≤ 8 * size_of plan parts i 0 = rw e at (fits.bits_fit i u) in
    let p = placed.inside i 0 u in
    has_pack (start_of plan parts i 0) l room (rw e at (held.bits_lie i u)) held.are_bytes (omega arith)
