-- One entry of a log: the room after it holds the memory after it. Assumes nothing.
use mathlib.Core.Path.{◌≡◌, refl}
use mathlib.Core.Bool.{Bool, true, false, cond, ◌&&◌}
use mathlib.Core.List.{List, [], ◌∷◌, ◌++◌}
use Prim.Native.Nat.{ℕ, ◌+◌, ◌*◌, ◌/◌, ◌≤◌, ◌<◌}
use native.Mathlib.Omega.{arith}
use lib.ListN.{length, take, get_or, length-append}
use lib.Dec.{eqb}
use borrow.Author.Tests.{le-leb, eq-eqb, eqb-true, eqb-false}
use Rattle.number.specs.Number.{splice}
use Rattle.bits.specs.Bits.{put_bits}
use Rattle.bits.proofs.Laws.{below_of_lem}
use Rattle.bits.proofs.Puts.{put_nil}
use Rattle.walk.specs.Log.{Entry, put, mask, amend, start_of, in_room, enter}
use Rattle.refinement.specs.walk_is_model.Memory.{Memory, put_in, mask_in, amend_in, noted, InPlace}
use Rattle.refinement.specs.log_in_room.Room.{size_of, AllBelow, HasBytes, HasBits, Placed, Lies, Fits, UsedEntry}
use Rattle.refinement.proofs.log_in_room.Writes.{apart_never, Wrote, has_bytes_still, has_bits_still, put_wrote, put_own, amend_own, mask_wrote, mask_own}

-- a test that holds
in_room_lem : (start o n m : ℕ) → start + o + n ≤ m → in_room start o n m ≡ true
unfolding in_room
in_room_lem start o n m r = le-leb (start + o + n) m r

module _ (plan parts : List ℕ) where
  -- byte p is not among those that the entry writes, nor in the validity byte whose free bits it fills
  abbrev pub Misses : Entry → ℕ → Type 0
  Misses (put i b o bs) p = start_of plan parts i b + o ≤ p → p < start_of plan parts i b + o + length bs → ⊥
  Misses (mask i q vs) p = 0 < length vs → start_of plan parts i 0 + q / 8 ≤ p → p < start_of plan parts i 0 + (q + length vs + 7) / 8 → ⊥
  Misses (amend i b o bs) p = start_of plan parts i b + o ≤ p → p < start_of plan parts i b + o + length bs → ⊥

  enter_put : (i b o : ℕ) (bs room : List ℕ) → start_of plan parts i b + o + length bs ≤ length room
      → enter plan parts (put i b o bs) room ≡ splice (start_of plan parts i b + o) bs room
  unfolding enter
  enter_put i b o bs room h = rw (in_room_lem (start_of plan parts i b) o (length bs) (length room) h)

  enter_amend : (i b o : ℕ) (bs room : List ℕ) → start_of plan parts i b + o + length bs ≤ length room
      → enter plan parts (amend i b o bs) room ≡ splice (start_of plan parts i b + o) bs room
  unfolding enter
  enter_amend i b o bs room h = rw (in_room_lem (start_of plan parts i b) o (length bs) (length room) h)

  enter_mask : (i p : ℕ) (vs room : List ℕ) → 8 * start_of plan parts i 0 + p + length vs ≤ 8 * length room
      → enter plan parts (mask i p vs) room ≡ put_bits (8 * start_of plan parts i 0 + p) vs room
  unfolding enter
  enter_mask i p vs room h = rw (in_room_lem (8 * start_of plan parts i 0) p (length vs) (8 * length room) h)

module _ (plan parts : List ℕ) (Used : ℕ → ℕ → Type 0) (room : List ℕ) (μ : Memory)
    (placed : Placed plan parts Used (length room)) (held : Lies plan parts Used room μ) (fits : Fits plan parts Used μ) where
  -- what is not written to still stands in the room
  module _ {lo hi : ℕ} {room' : List ℕ} (w : Wrote lo hi room room') (i b : ℕ) (used : Used i b) (from : start_of plan parts i b ≤ lo)
      (to : hi ≤ start_of plan parts i b + size_of plan parts i b) where
    other_bytes : (j e : ℕ) → Used j e → 1 ≤ e → (j ≡ i → e ≡ b → ⊥) → HasBytes (start_of plan parts j e) (μ.at j e) room'
    other_bytes j e u h ne =
        let f = fits.bytes_fit j e u h in
        let m = placed.inside j e u in
        has_bytes_still w (start_of plan parts j e) (μ.at j e) (omega arith)
        (λ p x y z t. apart_never (placed.apart j e i b u used ne) p x (omega arith) (omega arith) (omega arith)) (held.bytes_lie j e u h)

    other_bits : (j : ℕ) → Used j 0 → (j ≡ i → 0 ≡ b → ⊥) → HasBits (start_of plan parts j 0) (μ.bits j) room'
    other_bits j u ne =
        has_bits_still w (start_of plan parts j 0) (μ.bits j) (size_of plan parts j 0) (placed.inside j 0 u) (fits.bits_fit j u)
        (λ p x y z t. apart_never (placed.apart j 0 i b u used ne) p x y (omega arith) (omega arith)) (held.bits_lie j u)

  abbrev put_room : ℕ → ℕ → List ℕ → List ℕ
  put_room i b bs = splice (start_of plan parts i b + length (μ.at i b)) bs room

  abbrev mask_room : ℕ → List ℕ → List ℕ
  mask_room i vs = put_bits (8 * start_of plan parts i 0 + length (μ.bits i)) vs room

  module _ (i b : ℕ) (bs : List ℕ) (used : Used i b) (pos : 1 ≤ b) (below : AllBelow 256 bs)
      (enough : length (μ.at i b) + length bs ≤ size_of plan parts i b) where
    put_fits : start_of plan parts i b + length (μ.at i b) + length bs ≤ length room
    put_fits = let m = placed.inside i b used in omega arith

    put_changes : Wrote (start_of plan parts i b + length (μ.at i b)) (start_of plan parts i b + length (μ.at i b) + length bs) room (put_room i b bs)
    put_changes = put_wrote (start_of plan parts i b + length (μ.at i b)) bs room put_fits below held.are_bytes

    put_lies : Lies plan parts Used (put_room i b bs) (put_in i b bs μ)
    put_lies =
        record {
          are_bytes = put_changes.still_bytes;
          bytes_lie = λ j e u h. go j e u h (eqb j i) refl (eqb e b) refl;
          bits_lie = λ j u. other_bits put_changes i b used (omega arith) (omega arith) j u (λ x y. omega arith);
        }
      where
        go : (j e : ℕ) → Used j e → 1 ≤ e → (s : Bool) → eqb j i ≡ s → (t : Bool) → eqb e b ≡ t → HasBytes (start_of plan parts j e) (cond (s && t) (μ.at j e ++ bs) (μ.at j e)) (put_room i b bs)
        go j e u h true p true q =
            rw (eqb-true j i p, eqb-true e b q)
            (put_own (start_of plan parts i b) (μ.at i b) bs room put_fits below held.are_bytes (held.bytes_lie i b used pos))
        go j e u h true p false q = other_bytes put_changes i b used (omega arith) (omega arith) j e u h (λ x y. eqb-false e b q y)
        go j e u h false p t q = other_bytes put_changes i b used (omega arith) (omega arith) j e u h (λ x y. eqb-false j i p x)

  module _ (i : ℕ) (vs : List ℕ) (used : Used i 0) (below : AllBelow 2 vs) (enough : length (μ.bits i) + length vs ≤ 8 * size_of plan parts i 0) where
    mask_fits_lem : 8 * start_of plan parts i 0 + length (μ.bits i) + length vs ≤ 8 * length room
    mask_fits_lem = let m = placed.inside i 0 used in omega arith

    mask_changes : Wrote ((8 * start_of plan parts i 0 + length (μ.bits i)) / 8) ((8 * start_of plan parts i 0 + length (μ.bits i) + length vs + 7) / 8) room (mask_room i vs)
    mask_changes = mask_wrote (8 * start_of plan parts i 0 + length (μ.bits i)) vs room mask_fits_lem below held.are_bytes

    mask_lies : Lies plan parts Used (mask_room i vs) (mask_in i vs μ)
    mask_lies =
        record {
          are_bytes = mask_changes.still_bytes;
          bytes_lie = λ j e u h. other_bytes mask_changes i 0 used (omega arith) (omega arith) j e u h (λ x y. omega arith);
          bits_lie = λ j u. go j u (eqb j i) refl;
        }
      where
        go : (j : ℕ) → Used j 0 → (s : Bool) → eqb j i ≡ s → HasBits (start_of plan parts j 0) (cond s (μ.bits j ++ vs) (μ.bits j)) (mask_room i vs)
        go j u true p =
            rw (eqb-true j i p) (mask_own (start_of plan parts i 0) (μ.bits i) vs room mask_fits_lem below held.are_bytes (held.bits_lie i used))
        go j u false p = other_bits mask_changes i 0 used (omega arith) (omega arith) j u (λ x y. eqb-false j i p x)

  -- over the last bytes
  module _ (i b o : ℕ) (bs : List ℕ) (used : Used i b) (pos : 1 ≤ b) (below : AllBelow 256 bs) (whole : o + length bs ≡ length (μ.at i b)) where
    abbrev amend_room : List ℕ
    amend_room = splice (start_of plan parts i b + o) bs room

    amend_part : o + length bs ≤ size_of plan parts i b
    amend_part = let f = fits.bytes_fit i b used pos in omega arith

    amend_fits : start_of plan parts i b + o + length bs ≤ length room
    amend_fits = let m = placed.inside i b used in let f = amend_part in omega arith

    amend_changes : Wrote (start_of plan parts i b + o) (start_of plan parts i b + o + length bs) room amend_room
    amend_changes = put_wrote (start_of plan parts i b + o) bs room amend_fits below held.are_bytes

    amend_lies : Lies plan parts Used amend_room (amend_in i b o bs μ)
    amend_lies =
        let f = amend_part in
        record {
          are_bytes = amend_changes.still_bytes;
          bytes_lie = λ j e u h. go j e u h (eqb j i) refl (eqb e b) refl;
          bits_lie = λ j u. other_bits amend_changes i b used (omega arith) (omega arith) j u (λ x y. omega arith);
        }
      where
        go : (j e : ℕ) → Used j e → 1 ≤ e → (s : Bool) → eqb j i ≡ s → (t : Bool) → eqb e b ≡ t → HasBytes (start_of plan parts j e) (cond (s && t) (take o (μ.at j e) ++ bs) (μ.at j e)) amend_room
        go j e u h true p true q =
            rw (eqb-true j i p, eqb-true e b q)
            (amend_own (start_of plan parts i b) o (μ.at i b) bs room whole amend_fits below held.are_bytes (held.bytes_lie i b used pos))
        go j e u h true p false q = let f = amend_part in other_bytes amend_changes i b used (omega arith) (omega arith) j e u h (λ x y. eqb-false e b q y)
        go j e u h false p t q = let f = amend_part in other_bytes amend_changes i b used (omega arith) (omega arith) j e u h (λ x y. eqb-false j i p x)

  -- ---- an entry

  pub record Stepped (e : Entry) (room' : List ℕ) : Type 0 where
    pub long : length room' ≡ length room
    pub lies : Lies plan parts Used room' (noted e μ)
    pub byte_same : (p : ℕ) → Misses plan parts e p → get_or room' p 0 ≡ get_or room p 0

  mask_same : (i : ℕ) (vs : List ℕ) → (w : Wrote ((8 * start_of plan parts i 0 + length (μ.bits i)) / 8) ((8 * start_of plan parts i 0 + length (μ.bits i) + length vs + 7) / 8) room (mask_room i vs))
      → (p : ℕ) → Misses plan parts (mask i (length (μ.bits i)) vs) p → get_or (mask_room i vs) p 0 ≡ get_or room p 0
  mask_same i [] w p h = rw (put_nil (8 * start_of plan parts i 0 + length (μ.bits i)) room (below_of_lem 256 room held.are_bytes))
  mask_same i (v ∷ vs) w p h = w.byte_same p (λ x y. h (omega arith) (omega arith) (omega arith))

  pub stepped : (e : Entry) → InPlace e μ → UsedEntry Used e → Fits plan parts Used (noted e μ) → Stepped e (enter plan parts e room)
  stepped (put i b o bs) q u f =
      let n : length ((put_in i b bs μ).at i b) ≡ length (μ.at i b) + length bs = rw (eq-eqb i i refl, eq-eqb b b refl) (length-append (μ.at i b) bs) in
      let enough : length (μ.at i b) + length bs ≤ size_of plan parts i b = rw n at (f.bytes_fit i b u.0 u.1) in
      rw (q, enter_put plan parts i b (length (μ.at i b)) bs room (put_fits i b bs u.0 u.1 u.2 enough))
      (record {
        long = (put_changes i b bs u.0 u.1 u.2 enough).long;
        lies = put_lies i b bs u.0 u.1 u.2 enough;
        byte_same = (put_changes i b bs u.0 u.1 u.2 enough).byte_same;
      })
  stepped (mask i p vs) q u f =
      let n : length ((mask_in i vs μ).bits i) ≡ length (μ.bits i) + length vs = rw (eq-eqb i i refl) (length-append (μ.bits i) vs) in
      let enough : length (μ.bits i) + length vs ≤ 8 * size_of plan parts i 0 = rw n at (f.bits_fit i u.0) in
      rw (q, enter_mask plan parts i (length (μ.bits i)) vs room (mask_fits_lem i vs u.0 u.1 enough))
      (record {
        long = (mask_changes i vs u.0 u.1 enough).long;
        lies = mask_lies i vs u.0 u.1 enough;
        byte_same = mask_same i vs (mask_changes i vs u.0 u.1 enough);
      })
  stepped (amend i b o bs) q u f =
      rw (enter_amend plan parts i b o bs room (amend_fits i b o bs u.0 u.1 u.2 q))
      (record {
        long = (amend_changes i b o bs u.0 u.1 u.2 q).long;
        lies = amend_lies i b o bs u.0 u.1 u.2 q;
        byte_same = (amend_changes i b o bs u.0 u.1 u.2 q).byte_same;
      })
