-- Numbers, keys and views as one write of entries, and the widths of entries. Assumes nothing.
use mathlib.Core.Path.{◌≡◌, refl, sym, ap, subst, ◌∙◌}
use mathlib.Core.Bool.{Bool, true, false}
use mathlib.Core.List.{List, [], ◌∷◌}
use Prim.Native.Nat.{ℕ, ◌+◌, ◌*◌, ◌≤◌, ◌<◌}
use native.Mathlib.Omega.{arith}
use lib.ListN.{length, take, drop}
use lib.Dec.{leb, eqb}
use borrow.Author.Tests.{le-leb, lt-leb, leb-true, leb-false}
use Rattle.schema.specs.formats.Code.{between, is_fixed, is_string, is_view, width_of}
use Rattle.utils.specs.primitive.Primitive.{rebased}
use Rattle.utils.specs.byte_view.View.{reviewed}
use Rattle.array_data.proofs.lent_tables.Laws.{and_left, and_right}
use Rattle.walk.specs.State.{Join, code_of, dictionary_of, bytes_of, base_of, rows, place, rows_in, scaled, top}
use Rattle.walk.specs.Log.{Entry, put, Did, apply_if, need, wrote}
use Rattle.walk.specs.Leaves.{copy_numbers, copy_keys, copy_views}
use Rattle.walk.specs.Copy.{Walk, copy_data}
use Rattle.walk.proofs.Laws.{wrote_did, need_no, need_ok}
use Rattle.room_writes.proofs.Bytes.{width_in_lem}
use Rattle.leaf_walk.proofs.Laws.{wrote_at, zero_same}
use Rattle.leaf_walk.proofs.Widths.{fixed_width}
use Rattle.nested_rows.proofs.node_data.Laws.{data_numbers, data_keys, data_views, to_numbers, to_keys, to_views}
use Rattle.plan.specs.parts.Parts.{entry_size}

-- ---- codes

pub leaf_code : (code : ℕ) → between 1 16 code ≡ true → (1 ≤ code) × (code < 17)
leaf_code code h = (leb-true 1 code (and_left (leb 1 code) (leb code 16) h), omega (arith, leb-true code 16 (and_right (leb 1 code) (leb code 16) h)))

pub fixed_size : (code : ℕ) → is_fixed code ≡ true → entry_size code ≡ width_of code
fixed_size code h = let l = leb-true code 10 (and_right (leb 1 code) (leb code 10) h) in rw (lt-leb 15 code (omega arith), lt-leb 21 code (omega arith))

pub string_size : (code : ℕ) → is_string code ≡ true → entry_size code ≡ width_of code
string_size code h = let l = leb-true code 14 (and_right (leb 11 code) (leb code 14) h) in rw (lt-leb 15 code (omega arith), lt-leb 21 code (omega arith))

pub view_size : (code : ℕ) → is_view code ≡ true → entry_size code ≡ 16
view_size code h = rw h

-- a leaf that is no byte string and no view is a number
pub is_number : (code : ℕ) → 1 ≤ code → code < 17 → is_string code ≡ false → is_view code ≡ false → is_fixed code ≡ true
is_number code a b s v = go (leb code 10) refl
  where
    go : (t : Bool) → leb code 10 ≡ t → is_fixed code ≡ true
    go true e = rw (le-leb 1 code a, e)
    go false e =
        let l = leb-false code 10 e in
        let m : leb code 14 ≡ false = rw (le-leb 11 code (omega (arith, l))) at s in
        let k : leb code 16 ≡ false = rw (le-leb 15 code (omega (arith, leb-false code 14 m))) at v in
        absurd (omega (arith, leb-false code 16 k))

-- .. and one that is no byte string and no number is a view
pub is_views : (code : ℕ) → 1 ≤ code → code < 17 → is_string code ≡ false → is_fixed code ≡ false → is_view code ≡ true
is_views code a b s f =
    let l : leb code 10 ≡ false = rw (le-leb 1 code a) at f in
    let m : leb code 14 ≡ false = rw (le-leb 11 code (omega (arith, leb-false code 10 l))) at s in
    rw (le-leb 15 code (omega (arith, leb-false code 14 m)), le-leb code 16 (omega arith))

-- .. and a view's code is no number's
pub not_number : (code : ℕ) → is_view code ≡ true → is_fixed code ≡ false
not_number code h = let l = leb-true 15 code (and_left (leb 15 code) (leb code 16) h) in rw (le-leb 1 code (omega arith), lt-leb code 10 (omega arith))

module _ (code : ℕ) (a : 1 ≤ code) (b : code < 17) (s : is_string code ≡ false) where
  -- entries have 1 to 16 bytes
  pub size_in_lem : {w : ℕ} → w ≡ entry_size code → (1 ≤ w) × (w ≤ 16)
  size_in_lem {w} e = go (is_view code) refl
    where
      go : (t : Bool) → is_view code ≡ t → (1 ≤ w) × (w ≤ 16)
      go true v = let q = e ∙ view_size code v in (omega arith, omega arith)
      go false v =
          let f = is_number code a b s v in
          let k = width_in_lem (width_of code) (fixed_width code f) in
          let q = e ∙ fixed_size code f in
          (omega arith, omega arith)

-- ---- one write

module _ (x : Join) (child : Walk) (i slot n : ℕ) (c : List ℕ) where
  pub record Entries : Type 0 where
    pub entry : Entry
    pub is : need (rows_in x (place x i 3) (entry_size (code_of x.plan i)) slot n) 12 c (wrote entry c) ≡ copy_data x child (code_of x.plan i) i slot n c

  pub entries_are : 1 ≤ code_of x.plan i → code_of x.plan i < 17 → is_string (code_of x.plan i) ≡ false → Entries
  unfolding copy_numbers copy_keys copy_views
  entries_are a b s = go (is_fixed (code_of x.plan i)) refl (eqb (dictionary_of x.plan i) 0) refl
    where
      go : (t : Bool) → is_fixed (code_of x.plan i) ≡ t → (u : Bool) → eqb (dictionary_of x.plan i) 0 ≡ u → Entries
      go true e true k =
          record {
            entry = put i 1 (rows c i * bytes_of x.plan i) (take (bytes_of x.plan i * n) (drop (place x i 3 + bytes_of x.plan i * slot) x.body));
            is = rw (fixed_size (code_of x.plan i) e) (data_numbers x child (code_of x.plan i) i slot n c e k);
          }
      go true e false k =
          record {
            entry = put i 1 (rows c i * bytes_of x.plan i) (rebased (bytes_of x.plan i) x.body (place x i 3 + bytes_of x.plan i * slot) (base_of x.plan x.source i) n);
            is = rw (fixed_size (code_of x.plan i) e) (data_keys x child (code_of x.plan i) i slot n c e k);
          }
      go false e u k =
          let v = is_views (code_of x.plan i) a b s e in
          record {
            entry = put i 1 (rows c i * 16) (reviewed x.body (place x i 3 + 16 * slot) (base_of x.plan x.source i) n);
            is = rw (view_size (code_of x.plan i) v) (data_views x child (code_of x.plan i) i slot n c e s v);
          }

module _ (x : Join) (child : Walk) (i slot n : ℕ) (c room : List ℕ) (e : Entries x child i slot n c) where
  pub entries_dry : rows_in x (place x i 3) (entry_size (code_of x.plan i)) slot n ≡ true → Did x.plan x.parts false (copy_data x child (code_of x.plan i) i slot n c) room 0 c room
  unfolding apply_if
  entries_dry h = subst (λ o. Did x.plan x.parts false o room 0 c room) e.is (need_ok 12 c h (wrote_did false e.entry c room room refl))

  pub entries_out : rows_in x (place x i 3) (entry_size (code_of x.plan i)) slot n ≡ false → Did x.plan x.parts false (copy_data x child (code_of x.plan i) i slot n c) room 12 c room
  entries_out h = subst (λ o. Did x.plan x.parts false o room 12 c room) e.is (need_no (wrote e.entry c) h)

-- ---- as the code writes them

-- what a test of a code that was read says of the code itself
pub told : (f : ℕ → Bool) {code k : ℕ} {t v : Bool} → code ≡ k → t ≡ f code → t ≡ v → f k ≡ v
told f e g h = ap f (sym e) ∙ sym g ∙ h

module _ (x : Join) (child : Walk) (i slot n : ℕ) (c room : List ℕ) {w at p o : ℕ} (e : w ≡ entry_size (code_of x.plan i)) (k : at ≡ place x i 3)
    (inside : place x i 3 + w * (slot + n) ≤ length x.body) (l : p ≡ rows c i) (m : o ≡ scaled p w) (z : length room < top) where
  -- f: the bytes of the entries at a place, with a base
  made : (f : ℕ → ℕ → List ℕ) {base base2 : ℕ} {room2 : List ℕ} → base ≡ base2 → room2 ≡ apply_if x.plan x.parts true (put i 1 o (f at base) ∷ []) room
      → Did x.plan x.parts true (need (rows_in x (place x i 3) w slot n) 12 c (wrote (put i 1 (rows c i * w) (f (place x i 3) base2)) c)) room 0 c room2
  unfolding rows_in
  made f {base2 = base2} q g =
      need_ok 12 c (le-leb (place x i 3 + w * (slot + n)) (length x.body) inside) (wrote_at x.plan x.parts true i 1 (rows c i) w (f (place x i 3) base2) c room l m z (rw (k, q) at g))

  module _ {room2 : List ℕ} (a : 1 ≤ code_of x.plan i) (b : code_of x.plan i < 17) (s : is_string (code_of x.plan i) ≡ false) where
    pub put_views : {base : ℕ} → is_view (code_of x.plan i) ≡ true → base ≡ base_of x.plan x.source i
        → room2 ≡ apply_if x.plan x.parts true (put i 1 o (reviewed x.body (at + w * slot) base n) ∷ []) room
        → Did x.plan x.parts true (copy_data x child (code_of x.plan i) i slot n c) room 0 c room2
    unfolding copy_views
    put_views v q g =
        let y : w ≡ 16 = e ∙ view_size (code_of x.plan i) v in
        to_views x child true i slot n c room refl refl refl (not_number (code_of x.plan i) v) refl s refl v (rw y at (made (λ at2 base2. reviewed x.body (at2 + w * slot) base2 n) q g))

    pub put_numbers : {v : ℕ} → is_view (code_of x.plan i) ≡ false → v ≡ dictionary_of x.plan i → v ≡ 0
        → room2 ≡ apply_if x.plan x.parts true (put i 1 o (take (w * n) (drop (at + w * slot) x.body)) ∷ []) room
        → Did x.plan x.parts true (copy_data x child (code_of x.plan i) i slot n c) room 0 c room2
    unfolding copy_numbers
    put_numbers v q h g =
        let y = is_number (code_of x.plan i) a b s v in
        to_numbers x child true i slot n c room refl (e ∙ fixed_size (code_of x.plan i) y) refl y q h (made (λ at2 base2. take (w * n) (drop (at2 + w * slot) x.body)) zero_same g)

    pub put_keys : {v base : ℕ} → is_view (code_of x.plan i) ≡ false → v ≡ dictionary_of x.plan i → (v ≡ 0 → ⊥) → base ≡ base_of x.plan x.source i
        → room2 ≡ apply_if x.plan x.parts true (put i 1 o (rebased w x.body (at + w * slot) base n) ∷ []) room
        → Did x.plan x.parts true (copy_data x child (code_of x.plan i) i slot n c) room 0 c room2
    unfolding copy_keys
    put_keys v q h r g =
        let y = is_number (code_of x.plan i) a b s v in
        to_keys x child true i slot n c room refl (e ∙ fixed_size (code_of x.plan i) y) refl y q h (made (λ at2 base2. rebased w x.body (at2 + w * slot) base2 n) r g)

-- the widths of keys
pub keys_wide : (code : ℕ) → 1 ≤ code → code < 17 → is_string code ≡ false → is_view code ≡ false → {w : ℕ} → w ≡ entry_size code
    → ((w ≡ 1 → ⊥) → (w ≡ 2 → ⊥) → (w ≡ 4 → ⊥) → w ≡ 8) × (w ≡ width_of code)
keys_wide code a b s v {w} e =
    let y = is_number code a b s v in
    let q : w ≡ width_of code = e ∙ fixed_size code y in
    (λ f g h. q ∙ fixed_width code y (λ z. f (q ∙ z)) (λ z. g (q ∙ z)) (λ z. h (q ∙ z)), q)
