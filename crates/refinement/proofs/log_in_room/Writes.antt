-- One write into the room: what it changes, and what then stands there. Assumes nothing.
use mathlib.Core.Path.{◌≡◌, refl, sym, ap, ◌∙◌}
use mathlib.Core.Bool.{Bool, true, false}
use mathlib.Core.List.{List, [], ◌∷◌, ◌++◌, append-nil}
use Prim.Native.Nat.{ℕ, suc, ◌+◌, ◌*◌, ◌-◌, ◌/◌, ◌≤◌, ◌<◌}
use native.Mathlib.Nat.{add-zero}
use native.Mathlib.Omega.{arith}
use lib.ListN.{length, take, drop, get_or, length-append, length-drop}
use lib.Seq.{take-add, take-take, drop-drop, take_at, get_or-take, get_or-drop, ext_get_or, length-take-le}
use lib.Dec.{ltb}
use borrow.Author.Tests.{ltb-true, ltb-false}
use Rattle.number.specs.Number.{splice}
use Rattle.number.proofs.Laws.{length_splice}
use Rattle.bits.specs.Bits.{bits, pad, bits_at, put_bits}
use Rattle.bits.proofs.Laws.{bit_at, below_of_lem, below_at_lem, below_splice}
use Rattle.bits.proofs.Puts.{splice_take, splice_mid, splice_drop, put_nil, below_put, length_put, put_run, put_before, put_pad, put_byte_below, put_byte_above, bits_at_add, bits_at_at, length_bits_at}
use Rattle.refinement.specs.log_in_room.Room.{AllBelow, Apart, before, behind, first_empty, second_empty, HasBytes, HasBits}

-- two parts that are apart share no byte
pub apart_never : {a m b n : ℕ} → Apart a m b n → (p : ℕ) → a ≤ p → p < a + m → b ≤ p → p < b + n → ⊥
apart_never (before h) p q r s t = omega arith
apart_never (behind h) p q r s t = omega arith
apart_never (first_empty h) p q r s t = omega arith
apart_never (second_empty h) p q r s t = omega arith

-- outside a range, one stands below it or above it
beside : {A : Type 0} (lo hi p : ℕ) → (lo ≤ p → p < hi → ⊥) → (p < lo → A) → (hi ≤ p → A) → A
beside {A} lo hi p never low high = go (ltb p lo) refl (ltb p hi) refl
  where
    go : (s : Bool) → ltb p lo ≡ s → (t : Bool) → ltb p hi ≡ t → A
    go true e t f = low (ltb-true p lo e)
    go false e true f = absurd (never (ltb-false p lo e) (ltb-true p hi f))
    go false e false f = high (ltb-false p hi f)

-- of the room, only the bytes lo .. hi - 1 are changed
pub record Wrote (lo hi : ℕ) (room room' : List ℕ) : Type 0 where
  pub long : length room' ≡ length room
  pub still_bytes : AllBelow 256 room'
  pub byte_same : (p : ℕ) → (lo ≤ p → p < hi → ⊥) → get_or room' p 0 ≡ get_or room p 0

module _ {lo hi : ℕ} {room room' : List ℕ} (w : Wrote lo hi room room') where
  pub bytes_same : (q m : ℕ) → q + m ≤ length room → ((p : ℕ) → q ≤ p → p < q + m → lo ≤ p → p < hi → ⊥) → take m (drop q room') ≡ take m (drop q room)
  bytes_same q m h never =
      ext_get_or 0 (take m (drop q room')) (take m (drop q room)) (n1 ∙ sym n2)
      (λ i l. rw (get_or-take m (drop q room') i 0 (omega (arith, n1)), get_or-take m (drop q room) i 0 (omega (arith, n1)), get_or-drop q room' i 0, get_or-drop q room i 0) (w.byte_same (q + i) (λ a b. never (q + i) (omega arith) (omega (arith, n1)) a b)))
    where
      n1 : length (take m (drop q room')) ≡ m
      n1 = length-take-le m (drop q room') (rw (length-drop, w.long) (omega arith))

      n2 : length (take m (drop q room)) ≡ m
      n2 = length-take-le m (drop q room) (rw length-drop (omega arith))

  pub bit_same : (p : ℕ) → (lo ≤ p / 8 → p / 8 < hi → ⊥) → get_or (bits room') p 0 ≡ get_or (bits room) p 0
  bit_same p h = rw (bit_at room' p, bit_at room p, w.byte_same (p / 8) h)

  pub bits_same : (q m : ℕ) → q + m ≤ 8 * length room → ((p : ℕ) → q ≤ p → p < q + m → lo ≤ p / 8 → p / 8 < hi → ⊥) → bits_at q m room' ≡ bits_at q m room
  bits_same q m h never =
      ext_get_or 0 (bits_at q m room') (bits_at q m room) (n1 ∙ sym n2)
      (λ i l. rw (bits_at_at q m i room' (omega (arith, n1)), bits_at_at q m i room (omega (arith, n1))) (bit_same (q + i) (λ a b. never (q + i) (omega arith) (omega (arith, n1)) a b)))
    where
      n1 : length (bits_at q m room') ≡ m
      n1 = length_bits_at q m room' (rw w.long h)

      n2 : length (bits_at q m room) ≡ m
      n2 = length_bits_at q m room h

  -- what stands in a part that is not written to
  pub has_bytes_still : (start : ℕ) (bs : List ℕ) → start + length bs ≤ length room → ((p : ℕ) → start ≤ p → p < start + length bs → lo ≤ p → p < hi → ⊥)
      → HasBytes start bs room → HasBytes start bs room'
  has_bytes_still start bs h never b = bytes_same start (length bs) h never ∙ b

  pub has_bits_still : (start : ℕ) (vs : List ℕ) (size : ℕ) → start + size ≤ length room → length vs ≤ 8 * size
      → ((p : ℕ) → start ≤ p → p < start + size → lo ≤ p → p < hi → ⊥) → HasBits start vs room → HasBits start vs room'
  has_bits_still start vs size h l never b =
      record {
        run = bits_same (8 * start) (length vs) (omega arith) (λ p x y. never (p / 8) (omega arith) (omega arith)) ∙ b.run;
        rest = λ p x y. bit_same (8 * start + p) (never ((8 * start + p) / 8) (omega arith) (omega arith)) ∙ b.rest p x y;
      }

-- ---- bytes

module _ (at : ℕ) (bs room : List ℕ) (fits : at + length bs ≤ length room) where
  pub put_wrote : AllBelow 256 bs → AllBelow 256 room → Wrote at (at + length bs) room (splice at bs room)
  put_wrote b r =
      record {
        long = length_splice at bs room fits;
        still_bytes = below_at_lem 256 (splice at bs room) (omega arith) (below_splice 256 at bs room (below_of_lem 256 bs b) (below_of_lem 256 room r));
        byte_same = λ p h. beside at (at + length bs) p h (low p) (high p);
      }
    where
      low : (p : ℕ) → p < at → get_or (splice at bs room) p 0 ≡ get_or room p 0
      low p h =
          sym (get_or-take at (splice at bs room) p 0 h)
          ∙ rw (splice_take at at bs room (omega arith) (omega arith)) (get_or-take at room p 0 h)

      high : (p : ℕ) → at + length bs ≤ p → get_or (splice at bs room) p 0 ≡ get_or room p 0
      high p h =
          let e : p + 0 ≡ p = add-zero p in
          let f : get_or (drop p (splice at bs room)) 0 0 ≡ get_or (drop p room) 0 0 = rw (splice_drop p at bs room h (omega arith)) in
          rw (get_or-drop p (splice at bs room) 0 0, get_or-drop p room 0 0, e) at f

-- behind the bytes that stood there
pub put_own : (start : ℕ) (d bs room : List ℕ) → start + length d + length bs ≤ length room → AllBelow 256 bs → AllBelow 256 room → HasBytes start d room
    → HasBytes start (d ++ bs) (splice (start + length d) bs room)
put_own start d bs room fits b r h =
    let w = put_wrote (start + length d) bs room fits b r in
    let old : take (length d) (drop start (splice (start + length d) bs room)) ≡ d = bytes_same w start (length d) (omega arith) (λ p x y. λ z u. omega arith) ∙ h in
    rw (length-append, take-add, old, drop-drop, splice_mid (start + length d) bs room (omega arith), take_at bs (drop (start + length d + length bs) room) (length bs) refl)

-- over the last of them
pub amend_own : (start o : ℕ) (d bs room : List ℕ) → o + length bs ≡ length d → start + o + length bs ≤ length room → AllBelow 256 bs → AllBelow 256 room → HasBytes start d room
    → HasBytes start (take o d ++ bs) (splice (start + o) bs room)
amend_own start o d bs room e fits b r h =
    let n : length (take o d) ≡ o = length-take-le o d (omega arith) in
    let z : HasBytes start (take o d) room = ap (λ k. take k (drop start room)) n ∙ sym (take-take o (length d) (drop start room) (omega arith)) ∙ ap (take o) h in
    rw n at (put_own start (take o d) bs room (omega (arith, n)) b r z)

-- ---- bits

module _ (p : ℕ) (vs room : List ℕ) (fits : p + length vs ≤ 8 * length room) (b : AllBelow 2 vs) (r : AllBelow 256 room) where
  pub mask_wrote : Wrote (p / 8) ((p + length vs + 7) / 8) room (put_bits p vs room)
  mask_wrote =
      record {
        long = length_put p vs room (below_of_lem 2 vs b) fits;
        still_bytes = below_at_lem 256 (put_bits p vs room) (omega arith) (below_put p vs room (below_of_lem 2 vs b) fits);
        byte_same = λ k h.
            beside (p / 8) ((p + length vs + 7) / 8) k h (put_byte_below p vs room (below_of_lem 2 vs b) fits (below_of_lem 256 room r) k)
            (put_byte_above p vs room (below_of_lem 2 vs b) fits (below_of_lem 256 room r) k);
      }

-- behind the bits that stood there
pub mask_own : (start : ℕ) (l vs room : List ℕ) → 8 * start + length l + length vs ≤ 8 * length room → AllBelow 2 vs → AllBelow 256 room → HasBits start l room
    → HasBits start (l ++ vs) (put_bits (8 * start + length l) vs room)
unfolding pad
mask_own start l [] room fits b r h = rw (append-nil, put_nil (8 * start + length l) room (below_of_lem 256 room r)) h
mask_own start l (v ∷ vs) room fits b r h =
    record {
      run = rw (length-append, bits_at_add, put_before q (v ∷ vs) room (below_of_lem 2 (v ∷ vs) b) fits (8 * start) (length l) (omega arith), h.run, put_run q (v ∷ vs) room (below_of_lem 2 (v ∷ vs) b) fits);
      rest = λ p x y.
          let n : length (l ++ v ∷ vs) ≡ length l + suc (length vs) = length-append l (v ∷ vs) in
          let e : 8 * start + p ≡ q + (suc (length vs) + (p - (length l + suc (length vs)))) = omega arith in
          ap (λ z. get_or (bits (put_bits q (v ∷ vs) room)) z 0) e
          ∙ put_pad q (v ∷ vs) room (below_of_lem 2 (v ∷ vs) b) fits (p - (length l + suc (length vs))) (omega arith);
    }
  where
    q : ℕ
    q = 8 * start + length l
