-- A log: the room after it holds the memory after it, and is else as it was. Assumes nothing.
use mathlib.Core.Path.{◌≡◌, refl, sym, ap, ◌∙◌}
use mathlib.Core.Bool.{Bool, true, false, cond, ◌&&◌}
use mathlib.Core.List.{List, [], ◌∷◌, ◌++◌}
use Prim.Native.Nat.{ℕ, ◌+◌, ◌*◌, ◌≤◌, ◌<◌}
use native.Mathlib.Nat.{le_refl, le_trans}
use native.Mathlib.Omega.{arith}
use lib.ListN.{length, take, get_or, length-append, get_or-append}
use lib.Dec.{eqb}
use lib.Seq.{length-take-le}
use borrow.Author.Tests.{eq-eqb, eqb-true}
use Rattle.bits.specs.Bits.{bits}
use Rattle.bits.proofs.Puts.{bits_at_at}
use Rattle.walk.specs.Log.{Entry, put, mask, amend, Log, start_of, enter, apply}
use Rattle.refinement.specs.walk_is_model.Memory.{Memory, put_in, mask_in, amend_in, noted, InPlace, after, AllInPlace}
use Rattle.refinement.specs.log_in_room.Room.{HasBits, NotOver, NoneOver, Placed, Lies, Fits, Outside, UsedEntry, AllUsed}
use Rattle.refinement.proofs.log_in_room.Step.{Misses, stepped}

-- ---- a log leaves no buffer shorter

longer : (t : Bool) (s bs : List ℕ) → length s ≤ length (cond t (s ++ bs) s)
longer true s bs = omega (arith, length-append s bs)
longer false s bs = le_refl _

grows_at_one : (e : Entry) (μ : Memory) → InPlace e μ → (i b : ℕ) → length (μ.at i b) ≤ length ((noted e μ).at i b)
grows_at_one (put j c o bs) μ q i b = longer (eqb i j && eqb b c) (μ.at i b) bs
grows_at_one (mask j p vs) μ q i b = le_refl _
grows_at_one (amend j c o bs) μ q i b = go (eqb i j) refl (eqb b c) refl
  where
    go : (s : Bool) → eqb i j ≡ s → (t : Bool) → eqb b c ≡ t → length (μ.at i b) ≤ length (cond (s && t) (take o (μ.at i b) ++ bs) (μ.at i b))
    go true e true f =
        rw (eqb-true i j e, eqb-true b c f) (omega (arith, length-append (take o (μ.at j c)) bs, length-take-le o (μ.at j c) (omega arith)))
    go true e false f = le_refl _
    go false e t f = le_refl _

grows_bits_one : (e : Entry) (μ : Memory) (i : ℕ) → length (μ.bits i) ≤ length ((noted e μ).bits i)
grows_bits_one (put j c o bs) μ i = le_refl _
grows_bits_one (mask j p vs) μ i = longer (eqb i j) (μ.bits i) vs
grows_bits_one (amend j c o bs) μ i = le_refl _

pub grows_at : (l : Log) (μ : Memory) → AllInPlace l μ → (i b : ℕ) → length (μ.at i b) ≤ length ((after l μ).at i b)
unfolding after AllInPlace
grows_at [] μ q i b = le_refl _
grows_at (e ∷ l) μ q i b = le_trans (grows_at_one e μ q.0 i b) (grows_at l (noted e μ) q.1 i b)

pub grows_bits : (l : Log) (μ : Memory) (i : ℕ) → length (μ.bits i) ≤ length ((after l μ).bits i)
unfolding after
grows_bits [] μ i = le_refl _
grows_bits (e ∷ l) μ i = le_trans (grows_bits_one e μ i) (grows_bits l (noted e μ) i)

bit_one : (e : Entry) (μ : Memory) (i q : ℕ) → q < length (μ.bits i) → get_or ((noted e μ).bits i) q 0 ≡ get_or (μ.bits i) q 0
bit_one (put j c o bs) μ i q h = refl
bit_one (amend j c o bs) μ i q h = refl
bit_one (mask j p vs) μ i q h = go (eqb i j)
  where
    go : (t : Bool) → get_or (cond t (μ.bits i ++ vs) (μ.bits i)) q 0 ≡ get_or (μ.bits i) q 0
    go true = get_or-append (μ.bits i) vs 0 q h
    go false = refl

-- bits that are there stay
pub bit_stays : (l : Log) (μ : Memory) (i q : ℕ) → q < length (μ.bits i) → get_or ((after l μ).bits i) q 0 ≡ get_or (μ.bits i) q 0
unfolding after
bit_stays [] μ i q h = refl
bit_stays (e ∷ l) μ i q h = let g = grows_bits_one e μ i in bit_stays l (noted e μ) i q (omega arith) ∙ bit_one e μ i q h

module _ (plan parts : List ℕ) (Used : ℕ → ℕ → Type 0) where
  -- what fits after a log fits before it
  pub fits_before : (l : Log) (μ : Memory) → AllInPlace l μ → Fits plan parts Used (after l μ) → Fits plan parts Used μ
  fits_before l μ q f =
      record {
        bytes_fit = λ i b u h. le_trans (grows_at l μ q i b) (f.bytes_fit i b u h);
        bits_fit = λ i u. le_trans (grows_bits l μ i) (f.bits_fit i u);
      }

  -- a byte that no entry of the log writes
  misses_one : (e : Entry) (l : Log) (μ : Memory) (p : ℕ) → AllInPlace (e ∷ l) μ → UsedEntry Used e → Outside plan parts Used (e ∷ l) μ (after (e ∷ l) μ) p → Misses plan parts e p
  unfolding after AllInPlace NoneOver
  misses_one (put i b o bs) l μ p q u h =
      λ x y.
      let n : length ((put_in i b bs μ).at i b) ≡ length (μ.at i b) + length bs = rw (eq-eqb i i refl, eq-eqb b b refl) (length-append (μ.at i b) bs) in
      let g = grows_at l (put_in i b bs μ) q.1 i b in
      let e = q.0 in
      h.no_bytes i b u.0 u.1 (omega arith) (omega arith)
  misses_one (mask i o vs) l μ p q u h =
      λ s x y.
      let n : length ((mask_in i vs μ).bits i) ≡ length (μ.bits i) + length vs = rw (eq-eqb i i refl) (length-append (μ.bits i) vs) in
      let g = grows_bits l (mask_in i vs μ) i in
      let e = q.0 in
      h.no_bits i u.0 (omega arith) (omega arith) (omega arith)
  misses_one (amend i b o bs) l μ p q u h = h.not_over.0

  outside_rest : (e : Entry) (l : Log) (μ ν : Memory) (p : ℕ) → InPlace e μ → Outside plan parts Used (e ∷ l) μ ν p → Outside plan parts Used l (noted e μ) ν p
  unfolding NoneOver
  outside_rest e l μ ν p q h =
      record {
        no_bytes = λ i b u r x y. let g = grows_at_one e μ q i b in h.no_bytes i b u r (omega arith) y;
        no_bits = λ i u s x y. let g = grows_bits_one e μ i in h.no_bits i u (omega arith) (omega arith) y;
        not_over = h.not_over.1;
      }

  pub record Written (log : Log) (room : List ℕ) (μ : Memory) (room' : List ℕ) : Type 0 where
    pub long : length room' ≡ length room
    pub lies : Lies plan parts Used room' (after log μ)
    pub byte_same : (p : ℕ) → Outside plan parts Used log μ (after log μ) p → get_or room' p 0 ≡ get_or room p 0

  pub written : (log : Log) (room : List ℕ) (μ : Memory) → Placed plan parts Used (length room) → Lies plan parts Used room μ → AllInPlace log μ → AllUsed Used log
      → Fits plan parts Used (after log μ) → Written log room μ (apply plan parts log room)
  unfolding apply after AllInPlace AllUsed
  written [] room μ placed held q u f = record { long = refl; lies = held; byte_same = λ p h. refl }
  written (e ∷ log) room μ placed held q u f =
      let g = fits_before (e ∷ log) μ q f in
      let s = stepped plan parts Used room μ placed held g e q.0 u.0 (fits_before log (noted e μ) q.1 f) in
      let w = written log (enter plan parts e room) (noted e μ) (rw s.long placed) s.lies q.1 u.1 f in
      record {
        long = w.long ∙ s.long;
        lies = w.lies;
        byte_same = λ p h. w.byte_same p (outside_rest e log μ (after log (noted e μ)) p q.0 h) ∙ s.byte_same p (misses_one e log μ p q u.0 h);
      }

  module _ (log : Log) (room : List ℕ) (μ : Memory) (placed : Placed plan parts Used (length room)) (held : Lies plan parts Used room μ) (place : AllInPlace log μ) (used : AllUsed Used log)
      (fits : Fits plan parts Used (after log μ)) where
    -- THE ROOM HOLDS THE MEMORY after a log
    pub room_lies : Lies plan parts Used (apply plan parts log room) (after log μ)
    room_lies = (written log room μ placed held place used fits).lies

    pub room_long : length (apply plan parts log room) ≡ length room
    room_long = (written log room μ placed held place used fits).long

    -- "An accepted order writes what it adds ..; bytes past the used part are not written"; where a run of nulls grows, also its end
    pub room_else : (p : ℕ) → Outside plan parts Used log μ (after log μ) p → get_or (apply plan parts log room) p 0 ≡ get_or room p 0
    room_else = (written log room μ placed held place used fits).byte_same

    -- ".. and otherwise only the last validity byte's free bits"
    pub room_bits_lem : (i q : ℕ) → Used i 0 → q < length (μ.bits i)
        → get_or (bits (apply plan parts log room)) (8 * start_of plan parts i 0 + q) 0 ≡ get_or (bits room) (8 * start_of plan parts i 0 + q) 0
    room_bits_lem i q u h =
        let g = grows_bits log μ i in
        sym (bit_in (start_of plan parts i 0) ((after log μ).bits i) (apply plan parts log room) (room_lies.bits_lie i u) q (omega arith))
        ∙ bit_stays log μ i q h
        ∙ bit_in (start_of plan parts i 0) (μ.bits i) room (held.bits_lie i u) q h
      where
        bit_in : (start : ℕ) (vs s : List ℕ) → HasBits start vs s → (q : ℕ) → q < length vs → get_or vs q 0 ≡ get_or (bits s) (8 * start + q) 0
        bit_in start vs s b q h = ap (λ l. get_or l q 0) (sym b.run) ∙ bits_at_at (8 * start) (length vs) q s h
