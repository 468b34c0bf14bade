-- A number written many times, in blocks that may lie over one another. Assumes nothing.
use mathlib.Core.Path.{◌≡◌, refl, sym, ap, ◌∙◌}
use Prim.Native.Nat.{ℕ, zero, suc, ◌+◌, ◌*◌, ◌-◌, ◌≤◌, ◌<◌}
use native.Mathlib.Nat.{add-zero, add-suc, mul-le-mul_left}
use native.Mathlib.Omega.{arith}
use mathlib.Core.List.{List, ◌++◌, append-nil, append_assoc}
use lib.ListN.{length}
use Rattle.number.specs.Number.{splice}
use Rattle.bits.proofs.Puts.{splice_over}
use Rattle.utils.specs.Pieces.{pieces, numbers}
use Rattle.utils.specs.Offsets.{repeated}
use Rattle.utils.proofs.Pieces.{length_numbers}

alike : (w v a m : ℕ) → numbers w (λ k. v) (a + m) ≡ numbers w (λ k. v) a ++ numbers w (λ k. v) m
unfolding pieces
alike w v a zero = rw (add-zero, append-nil) refl
alike w v a (suc m) = rw (add-suc, alike w v a m, append_assoc) refl

repeated_join : (w v a m : ℕ) → repeated w v (a + m) ≡ repeated w v a ++ repeated w v m
unfolding repeated
repeated_join w v a m = alike w v a m

length_repeated : (w v n : ℕ) → length (repeated w v n) ≡ w * n
unfolding repeated
length_repeated w v n = length_numbers w (λ k. v) n

pub scale_le : (w i n : ℕ) → i ≤ n → w * i ≤ w * n
scale_le w i n h = mul-le-mul_left w h

-- of c entries that are written, k are written again from entry i on, and reach past the last
pub written_over : (w v : ℕ) (room : List ℕ) (at i c k : ℕ) → i ≤ c → c ≤ i + k → at + w * (i + k) ≤ length room
    → splice (at + w * i) (repeated w v k) (splice at (repeated w v c) room) ≡ splice at (repeated w v (i + k)) room
written_over w v room at i c k h g l =
    let e : c ≡ i + (c - i) = omega arith in
    let t = repeated w v i in
    let z = repeated w v (c - i) in
    let p = repeated w v k in
    let lt : length t ≡ w * i = length_repeated w v i in
    let lz : length z ≡ w * (c - i) = length_repeated w v (c - i) in
    let lp : length p ≡ w * k = length_repeated w v k in
    let m : w * (i + k) ≡ w * i + w * k = omega arith in
    let s : splice (at + length t) p (splice at (t ++ z) room) ≡ splice at (t ++ p) room
    = splice_over at t z p room (rw (lz, lp) (scale_le w (c - i) k (omega arith))) (rw (lt, lp) (omega arith)) in
    ap (λ (x : ℕ). splice (at + w * i) p (splice at (repeated w v x) room)) e
    ∙ rw (repeated_join w v i (c - i), repeated_join w v i k) (rw lt at s)

-- .. and from the first on
pub written_again : (w v : ℕ) (room : List ℕ) (at c n : ℕ) → c ≤ n → at + w * n ≤ length room → splice at (repeated w v n) (splice at (repeated w v c) room) ≡ splice at (repeated w v n) room
written_again w v room at c n h l =
    let e : at + w * 0 ≡ at = omega arith in
    let d : 0 + n ≡ n = omega arith in
    rw (e, d) at (written_over w v room at 0 c n (omega arith) (omega arith) (rw d l))

-- room has the number v `made` times at `at`: as far as the next block, which begins at entry i, or into it
pub record Filled (room₀ : List ℕ) (at w n v : ℕ) (room : List ℕ) (i : ℕ) : Type 0 where
  pub made : ℕ
  pub reached : i ≤ made
  pub near : made ≤ i + 4
  pub inside : made ≤ n
  pub sized : length room ≡ length room₀
  pub is : room ≡ splice at (repeated w v made) room₀

module _ (w v : ℕ) (room₀ : List ℕ) (at n : ℕ) (fits : at + w * n ≤ length room₀) where
  pub ends_in_lem : (i : ℕ) → i + 4 ≤ n → at + w * (i + 4) ≤ length room₀
  ends_in_lem i h = omega (arith, scale_le w (i + 4) n h)

  pub block_in : (i : ℕ) → i + 4 ≤ n → at + w * i + w * 4 ≤ length room₀
  block_in i h = let m : w * (i + 4) ≡ w * i + w * 4 = omega arith in omega (arith, ends_in_lem i h)

  pub turned : {room room' : List ℕ} {i : ℕ} → Filled room₀ at w n v room i → i + 4 ≤ n → length room' ≡ length room₀
      → room' ≡ splice (at + w * i) (repeated w v 4) room → Filled room₀ at w n v room' (i + 4)
  turned {room} {room'} {i} f h z e =
      record {
        made = i + 4;
        reached = omega arith;
        near = omega arith;
        inside = h;
        sized = z;
        is = e ∙ ap (λ (r : List ℕ). splice (at + w * i) (repeated w v 4) r) f.is ∙ written_over w v room₀ at i f.made 4 f.reached f.near (ends_in_lem i h);
      }

  -- the first four stand in room₀ already
  pub begun : (old : List ℕ) {i : ℕ} → 4 ≤ n → i ≤ 4 → length room₀ ≡ length old → room₀ ≡ splice at (repeated w v 4) old → Filled room₀ at w n v room₀ i
  begun old {i} h l z e =
      let g : at + w * 4 ≤ length old = omega (arith, scale_le w 4 n h) in
      record {
        made = 4;
        reached = l;
        near = omega arith;
        inside = h;
        sized = refl;
        is = e ∙ sym (written_again w v old at 4 4 (omega arith) g) ∙ ap (λ (r : List ℕ). splice at (repeated w v 4) r) (sym e);
      }

  pub ended : (old : List ℕ) {room room' : List ℕ} {i : ℕ} (last : ℕ) → Filled room₀ at w n v room i → last + 4 ≡ n → last < i → length room₀ ≡ length old
      → room₀ ≡ splice at (repeated w v 4) old → room' ≡ splice (at + w * last) (repeated w v 4) room → room' ≡ splice at (repeated w v n) old
  ended old last f h l z d e =
      e ∙ ap (λ (r : List ℕ). splice (at + w * last) (repeated w v 4) r) f.is
      ∙ written_over w v room₀ at last f.made 4 (omega (arith, f.reached)) (omega (arith, f.inside)) (ends_in_lem last (omega arith))
      ∙ ap (λ (k : ℕ). splice at (repeated w v k) room₀) h
      ∙ ap (λ (r : List ℕ). splice at (repeated w v n) r) d
      ∙ written_again w v old at 4 n (omega arith) (omega arith)
