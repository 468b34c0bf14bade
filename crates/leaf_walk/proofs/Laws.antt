-- The walk at a leaf, by the ways that the code goes. Assumes nothing.
use mathlib.Core.Path.{◌≡◌, refl, sym, ap, subst, ◌∙◌}
use mathlib.Core.Bool.{Bool, true, false, not, ◌&&◌}
use mathlib.Core.List.{List, [], ◌∷◌}
use Prim.Native.Nat.{ℕ, zero, suc, ◌+◌, ◌*◌, ◌≤◌, ◌<◌}
use native.Mathlib.Omega.{arith}
use lib.ListN.{length, get_or, set, replicate}
use lib.Dec.{leb, eqb}
use borrow.Author.Tests.{leb-true, eqb-true, not-true}
use Rattle.bits.specs.Bits.{bits_at, zeros}
use Rattle.array_data.proofs.lent_tables.Laws.{no, yes, is_none, is_some, and_left, and_right}
use Rattle.walk.specs.State.{Join, keeps_of, rows, nulls, add_nulls, top, place, rows_in, scaled, grown}
use Rattle.walk.specs.Log.{Out, Did, put, mask, apply_if, done, wrote, need}
use Rattle.walk.specs.Leaves.{copy_bits, copy_mask, null_mask, count_nulls}
use Rattle.walk.proofs.Laws.{done_did, wrote_did, need_no, need_ok, next_ok}
use Rattle.room_writes.proofs.Laws.{Alike, alike_scaled, alike_grown, alike_times, place_alike}

-- ---- entries of w bytes in the body

module _ (x : Join) (at w slot n : ℕ) where
  pub rows_is : leb (at + w * (slot + n)) (length x.body) ≡ rows_in x at w slot n
  unfolding rows_in
  rows_is = refl

  pub rows_in_lem : {r : Bool} → r ≡ rows_in x at w slot n → not r ≡ false → at + w * (slot + n) ≤ length x.body
  unfolding rows_in
  rows_in_lem e f = leb-true _ _ (yes e f)

-- ---- null counters

set_same : (l : List ℕ) (k v : ℕ) → get_or l k 0 ≡ v → l ≡ set l k v
set_same [] k v h = refl
set_same (y ∷ l) zero v h = ap (λ z. z ∷ l) h
set_same (y ∷ l) (suc k) v h = ap (λ z. y ∷ z) (set_same l k v h)

-- A FULL COUNTER STAYS, whatever is added
pub full_stays : (i z : ℕ) (c : List ℕ) → nulls c i ≡ top → c ≡ add_nulls i z c
unfolding grown
full_stays i z c h = set_same c (3 * i + 1) (grown (nulls c i) z) (omega (arith, h))

-- entries with no base
pub zero_same : ◌≡◌ {A = ℕ} 0 0
zero_same = refl

-- a write whose place is a number of 64 bits that stands for o2
pub wrote_alike : (plan parts : List ℕ) (wr : Bool) (i b o o2 : ℕ) (bs c room : List ℕ) {room2 : List ℕ} → length room < top → Alike o o2
    → room2 ≡ apply_if plan parts wr (put i b o bs ∷ []) room → Did plan parts wr (wrote (put i b o2 bs) c) room 0 c room2
wrote_alike plan parts wr i b o o2 bs c room n a g = wrote_did wr (put i b o2 bs) c room _ (g ∙ place_alike plan parts wr i b o o2 bs room n a)

-- behind r entries of w bytes
pub wrote_at : (plan parts : List ℕ) (wr : Bool) (i b r w : ℕ) (bs c room : List ℕ) {o p : ℕ} {room2 : List ℕ} → p ≡ r → o ≡ scaled p w → length room < top
    → room2 ≡ apply_if plan parts wr (put i b o bs ∷ []) room → Did plan parts wr (wrote (put i b (r * w) bs) c) room 0 c room2
wrote_at plan parts wr i b r w bs c room {o} e f h g = wrote_alike plan parts wr i b o (r * w) bs c room h (rw (f, e) (alike_scaled r w)) g

-- behind r + k entries of w bytes
pub wrote_behind : (plan parts : List ℕ) (wr : Bool) (i b r k w : ℕ) (bs c room : List ℕ) {o p q : ℕ} {room2 : List ℕ} → p ≡ r → q ≡ grown p k → o ≡ scaled q w → 1 ≤ w → length room < top
    → room2 ≡ apply_if plan parts wr (put i b o bs ∷ []) room → Did plan parts wr (wrote (put i b ((r + k) * w) bs) c) room 0 c room2
wrote_behind plan parts wr i b r k w bs c room {o} {p} {q} e f l h n g =
    let s : Alike q (r + k) = rw (f, e) (alike_grown r k) in
    wrote_alike plan parts wr i b o ((r + k) * w) bs c room n (rw l (alike_times q (r + k) w s h)) g

module _ (x : Join) (i : ℕ) (wr : Bool) (c room : List ℕ) where
  pub entries_no : (w slot n : ℕ) (o : Out) {at : ℕ} {r : Bool} → at ≡ place x i 3 → r ≡ rows_in x at w slot n → not r ≡ true
      → Did x.plan x.parts wr (need (rows_in x (place x i 3) w slot n) 12 c o) room 12 c room
  entries_no w slot n o e q h = need_no o (rw e at (no q h))

  -- f: the bytes of the entries at a place, with a base
  pub entries_yes : (w slot n : ℕ) (f : ℕ → ℕ → List ℕ) {at base base2 o p : ℕ} {r : Bool} {room2 : List ℕ} → at ≡ place x i 3 → base ≡ base2 → r ≡ rows_in x at w slot n → not r ≡ false
      → p ≡ rows c i → o ≡ scaled p w → length room < top → room2 ≡ apply_if x.plan x.parts wr (put i 1 o (f at base) ∷ []) room
      → Did x.plan x.parts wr (need (rows_in x (place x i 3) w slot n) 12 c (wrote (put i 1 (rows c i * w) (f (place x i 3) base2)) c)) room 0 c room2
  entries_yes w slot n f e k q h l m s g =
      need_ok 12 c (rw e at (yes q h)) (wrote_at x.plan x.parts wr i 1 (rows c i) w (f (place x i 3) _) c room l m s (rw (e, k) at g))

  -- ---- validity

  pub bits_no : (slot n : ℕ) {at : ℕ} {r : Bool} → at ≡ place x i 1 → r ≡ leb (8 * at + slot + n) (8 * length x.body) → not r ≡ true → Did x.plan x.parts wr (copy_bits x i slot n c) room 12 c room
  unfolding copy_bits
  bits_no slot n e q h = need_no _ (rw e at (no q h))

  pub bits_yes : (slot n : ℕ) {at p z : ℕ} {r : Bool} {c2 room2 : List ℕ} → at ≡ place x i 1 → r ≡ leb (8 * at + slot + n) (8 * length x.body) → not r ≡ false → p ≡ rows c i
      → room2 ≡ apply_if x.plan x.parts wr (mask i p (bits_at (8 * at + slot) n x.body) ∷ []) room → z ≡ zeros (bits_at (8 * at + slot) n x.body) → c2 ≡ add_nulls i z c
      → Did x.plan x.parts wr (copy_bits x i slot n c) room 0 c2 room2
  unfolding copy_bits
  bits_yes slot n {room2 = room2} e q h f g z k =
      need_ok 12 c (rw e at (yes q h))
      (next_ok _ (wrote_did wr _ c room room2 (rw (e, f) at g)) refl
      (rw (k ∙ ap (λ (v : ℕ). add_nulls i v c) (z ∙ ap (λ (v : ℕ). zeros (bits_at (8 * v + slot) n x.body)) e)) (done_did wr _ room2)))

  -- a walk that only tries, from a null counter that is full
  pub bits_tried : (slot n : ℕ) {at : ℕ} {r t : Bool} → at ≡ place x i 1 → r ≡ leb (8 * at + slot + n) (8 * length x.body) → not r ≡ false → t ≡ (not wr && eqb (nulls c i) top) → t ≡ true
      → Did x.plan x.parts wr (copy_bits x i slot n c) room 0 c room
  unfolding copy_bits apply_if
  bits_tried slot n e b h q f =
      let k = sym q ∙ f in
      let tries : wr ≡ false = not-true wr (and_left (not wr) _ k) in
      let stays : c ≡ add_nulls i (zeros (bits_at (8 * place x i 1 + slot) n x.body)) c = full_stays i _ c (eqb-true (nulls c i) top (and_right (not wr) _ k)) in
      need_ok 12 c (rw e at (yes b h))
      (next_ok _ (wrote_did wr _ c room room (rw tries)) refl
      (subst (λ z. Did x.plan x.parts wr (done z) room 0 c room) stays (done_did wr c room)))

  pub mask_off : (slot n : ℕ) {k : ℕ} → k ≡ keeps_of x.plan i → k ≡ 0 → Did x.plan x.parts wr (copy_mask x i slot n c) room 0 c room
  unfolding copy_mask
  mask_off slot n e h = rw (is_none e h) (done_did wr c room)

  pub mask_ones : (slot n : ℕ) {k v p : ℕ} {room2 : List ℕ} → k ≡ keeps_of x.plan i → (k ≡ 0 → ⊥) → v ≡ place x i 0 → v ≡ 0 → p ≡ rows c i
      → room2 ≡ apply_if x.plan x.parts wr (mask i p (replicate n 1) ∷ []) room → Did x.plan x.parts wr (copy_mask x i slot n c) room 0 c room2
  unfolding copy_mask
  mask_ones slot n e h f l p g = rw (is_some e h, is_none f l) (wrote_did wr _ c room _ (rw p at g))

  pub mask_bits : (slot n : ℕ) {k v r : ℕ} {c2 room2 : List ℕ} → k ≡ keeps_of x.plan i → (k ≡ 0 → ⊥) → v ≡ place x i 0 → (v ≡ 0 → ⊥)
      → Did x.plan x.parts wr (copy_bits x i slot n c) room r c2 room2 → Did x.plan x.parts wr (copy_mask x i slot n c) room r c2 room2
  unfolding copy_mask
  mask_bits slot n e h f l d = rw (is_some e h, is_some f l) d

  -- ---- nulls

  pub nulls_off : (n : ℕ) {k : ℕ} → k ≡ keeps_of x.plan i → k ≡ 0 → Did x.plan x.parts wr (null_mask x i n c) room 0 c room
  unfolding null_mask
  nulls_off n e h = rw (is_none e h) (done_did wr c room)

  pub nulls_on : (n : ℕ) {k p : ℕ} {c2 room2 : List ℕ} → k ≡ keeps_of x.plan i → (k ≡ 0 → ⊥) → p ≡ rows c i
      → room2 ≡ apply_if x.plan x.parts wr (mask i p (replicate n 0) ∷ []) room → c2 ≡ add_nulls i n c → Did x.plan x.parts wr (null_mask x i n c) room 0 c2 room2
  unfolding null_mask
  nulls_on n {room2 = room2} e h p g k = rw (is_some e h) (next_ok _ (wrote_did wr _ c room room2 (rw p at g)) refl (rw k (done_did wr _ room2)))

  pub count_off : (n : ℕ) {k : ℕ} → k ≡ keeps_of x.plan i → k ≡ 0 → Did x.plan x.parts wr (count_nulls x i n c) room 0 c room
  unfolding count_nulls
  count_off n e h = rw (is_none e h) (done_did wr c room)

  pub count_on : (n : ℕ) {k : ℕ} {c2 : List ℕ} → k ≡ keeps_of x.plan i → (k ≡ 0 → ⊥) → c2 ≡ add_nulls i n c → Did x.plan x.parts wr (count_nulls x i n c) room 0 c2 room
  unfolding count_nulls
  count_on n e h k = rw (is_some e h, k) (done_did wr _ room)
