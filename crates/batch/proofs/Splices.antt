-- Bytes and bits written into a room, byte by byte; a write inside a part is a write of the part. Assumes nothing.
use mathlib.Core.Path.{◌≡◌, refl, sym, ap, ◌∙◌}
use mathlib.Core.Bool.{Bool, true, false}
use mathlib.Core.List.{List, ◌++◌}
use Prim.Native.Nat.{ℕ, zero, suc, ◌+◌, ◌*◌, ◌-◌, ◌<◌, ◌≤◌}
use native.Mathlib.Nat.{add-zero}
use native.Mathlib.Omega.{arith}
use lib.ListN.{length, take, drop, get_or, replicate, length-append, length-drop, length-replicate}
use lib.Seq.{get_or-take, get_or-drop, ext_get_or, length-take-le, take-add, drop-drop}
use lib.Dec.{ltb}
use borrow.Author.Tests.{ltb-true, ltb-false}
use Rattle.number.specs.Number.{splice}
use Rattle.number.proofs.Laws.{length_splice, splice_splice}
use Rattle.utils.proofs.Pieces.{get_d_splice}
use Rattle.bits.specs.Bits.{bits, pad, put_bits}
use Rattle.bits.proofs.Laws.{Below, below_splice, length_bits, bits_splice, take_bits, drop_bits}
use Rattle.bits.proofs.Puts.{splice_take, splice_drop, bits_put, below_put, same_bits, pad_fits}

module _ (at : ℕ) (bs : List ℕ) (s : List ℕ) (fits : at + length bs ≤ length s) where
  pub splice_low : (p : ℕ) → p < at → get_or (splice at bs s) p 0 ≡ get_or s p 0
  splice_low p h = sym (get_or-take at (splice at bs s) p 0 h) ∙ rw (splice_take at at bs s (omega arith) (omega arith)) (get_or-take at s p 0 h)

  pub splice_high : (p : ℕ) → at + length bs ≤ p → get_or (splice at bs s) p 0 ≡ get_or s p 0
  splice_high p h =
      let e : p + 0 ≡ p = add-zero p in
      let f : get_or (drop p (splice at bs s)) 0 0 ≡ get_or (drop p s) 0 0 = rw (splice_drop p at bs s h (omega arith)) in
      rw (get_or-drop p (splice at bs s) 0 0, get_or-drop p s 0 0, e) at f

  pub splice_own : (p : ℕ) → at ≤ p → p < at + length bs → get_or (splice at bs s) p 0 ≡ get_or bs (p - at) 0
  splice_own p h k =
      let e : at + (p - at) ≡ p = omega arith in
      ap (λ q. get_or (splice at bs s) q 0) (sym e) ∙ get_d_splice at bs s fits (p - at) (omega arith)

-- below, in or above a range
pub three : (lo hi p : ℕ) {P : Type 0} → (p < lo → P) → (lo ≤ p → p < hi → P) → (hi ≤ p → P) → P
three lo hi p {P} a b c = go (ltb p lo) refl (ltb p hi) refl
  where
    go : (s : Bool) → ltb p lo ≡ s → (t : Bool) → ltb p hi ≡ t → P
    go true e t f = a (ltb-true p lo e)
    go false e true f = b (ltb-false p lo e) (ltb-true p hi f)
    go false e false f = c (ltb-false p hi f)

-- the z entries from a on
abbrev pub window : ℕ → ℕ → List ℕ → List ℕ
window a z l = take z (drop a l)

pub window_long : (a z : ℕ) (l : List ℕ) → a + z ≤ length l → length (window a z l) ≡ z
window_long a z l h = length-take-le z (drop a l) (rw length-drop (omega arith))

pub window_at : (a z : ℕ) (l : List ℕ) (q : ℕ) → q < z → get_or (window a z l) q 0 ≡ get_or l (a + q) 0
window_at a z l q h = get_or-take z (drop a l) q 0 h ∙ get_or-drop a l q 0

-- a write inside a window is a write of the window
pub splice_in : (a p z : ℕ) (v l : List ℕ) → p + length v ≤ z → a + z ≤ length l → splice (a + p) v l ≡ splice a (splice p v (window a z l)) l
splice_in a p z v l h g =
    ext_get_or 0 (splice (a + p) v l) (splice a mid l) (length_splice (a + p) v l (omega arith) ∙ sym (length_splice a mid l (omega (arith, long))))
    (λ q u. three a (a + z) q (λ y. splice_low (a + p) v l (omega arith) q (omega arith) ∙ sym (splice_low a mid l (omega (arith, long)) q y)) (λ y w. inside q y w)
    (λ y. splice_high (a + p) v l (omega arith) q (omega arith) ∙ sym (splice_high a mid l (omega (arith, long)) q (omega (arith, long)))))
  where
    n : length (window a z l) ≡ z
    n = window_long a z l g

    mid : List ℕ
    mid = splice p v (window a z l)

    long : length mid ≡ z
    long = length_splice p v (window a z l) (omega (arith, n)) ∙ n

    same : (q : ℕ) → a ≤ q → q < a + z → get_or (window a z l) (q - a) 0 ≡ get_or l q 0
    same q y w = let e : a + (q - a) ≡ q = omega arith in window_at a z l (q - a) (omega arith) ∙ ap (λ r. get_or l r 0) e

    inside : (q : ℕ) → a ≤ q → q < a + z → get_or (splice (a + p) v l) q 0 ≡ get_or (splice a mid l) q 0
    inside q y w =
        three (a + p) (a + p + length v) q
        (λ i. splice_low (a + p) v l (omega arith) q i ∙ sym (splice_own a mid l (omega (arith, long)) q y (omega (arith, long)) ∙ splice_low p v (window a z l) (omega (arith, n)) (q - a) (omega arith) ∙ same q y w))
        (λ i j. splice_own (a + p) v l (omega arith) q i j ∙ ap (λ r. get_or v r 0) (let e : q - (a + p) ≡ q - a - p = omega arith in e) ∙ sym (splice_own a mid l (omega (arith, long)) q y (omega (arith, long)) ∙ splice_own p v (window a z l) (omega (arith, n)) (q - a) (omega arith) (omega arith)))
        (λ i. splice_high (a + p) v l (omega arith) q i ∙ sym (splice_own a mid l (omega (arith, long)) q y (omega (arith, long)) ∙ splice_high p v (window a z l) (omega (arith, n)) (q - a) (omega arith) ∙ same q y w))

pad_shift : (a p n : ℕ) → pad (8 * a + p) n ≡ pad p n
unfolding pad
pad_shift a p zero = refl
pad_shift a p (suc n) = omega arith

-- bits inside a window of bytes
pub mask_in_lem : (a p z : ℕ) (vs s : List ℕ) → Below 2 vs → Below 256 s → p + length vs ≤ 8 * z → a + z ≤ length s
    → put_bits (8 * a + p) vs s ≡ splice a (put_bits p vs (window a z s)) s
mask_in_lem a p z vs s b u h g =
    same_bits (put_bits (8 * a + p) vs s) (splice a (put_bits p vs (window a z s)) s) (below_put (8 * a + p) vs s b (omega arith)) (below_splice 256 a (put_bits p vs (window a z s)) s (below_put p vs (window a z s) b (omega (arith, n))) u)
    (bits_put (8 * a + p) vs s b (omega arith)
    ∙ rw (pad_shift a p (length vs)) (splice_in (8 * a) p (8 * z) run (bits s) (omega (arith, fit, len)) (rw length_bits (omega arith)))
    ∙ ap (λ w. splice (8 * a) (splice p run w) (bits s)) (ap (take (8 * z)) (drop_bits a s) ∙ take_bits z (drop a s))
    ∙ ap (λ w. splice (8 * a) w (bits s)) (sym (bits_put p vs (window a z s) b (omega (arith, n))))
    ∙ sym (bits_splice a (put_bits p vs (window a z s)) s))
  where
    n : length (window a z s) ≡ z
    n = window_long a z s g

    run : List ℕ
    run = vs ++ replicate (pad p (length vs)) 0

    len : length run ≡ length vs + pad p (length vs)
    len = length-append vs (replicate (pad p (length vs)) 0) ∙ ap (λ m. length vs + m) (length-replicate (pad p (length vs)) 0)

    fit : p + length vs + pad p (length vs) ≤ 8 * z
    fit = pad_fits p (length vs) z h

-- i bytes that are copied, and k behind them, are i + k
pub copy_copy : (room body : List ℕ) (at from i k : ℕ) → at + i + k ≤ length room → from + i + k ≤ length body
    → splice (at + i) (take k (drop (from + i) body)) (splice at (take i (drop from body)) room) ≡ splice at (take (i + k) (drop from body)) room
copy_copy room body at from i k h g =
    let e : length (take i (drop from body)) ≡ i = length-take-le i (drop from body) (simp length-drop (omega arith)) in
    let f : length (take k (drop (from + i) body)) ≡ k = length-take-le k (drop (from + i) body) (simp length-drop (omega arith)) in
    rw (take-add, drop-drop) (rw e at (splice_splice at (take i (drop from body)) (take k (drop (from + i) body)) room (simp (e, f) (omega arith))))
