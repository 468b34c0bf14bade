-- What the code over slots goes by. Assumes nothing.
use mathlib.Core.Path.{◌≡◌, refl, sym, ap, ap₂, subst, ◌∙◌}
use mathlib.Core.Bool.{Bool, true, false, not, cond, ◌&&◌, true≢false}
use mathlib.Core.Option.{Option, none, some}
use mathlib.Core.List.{List, [], ◌∷◌}
use Prim.Native.Nat.{ℕ, zero, suc, ◌+◌, ◌*◌, ◌-◌, ◌/◌, ◌%◌, ◌^◌, ◌≤◌, ◌<◌}
use native.Mathlib.Omega.{arith}
use native.Mathlib.Numerals.{add-one}
use lib.Dec.{eqb, leb, ltb}
use lib.ListN.{length, take, drop, get_or, length-take, length-drop}
use lib.Ieee.{Float, binary64, nan_bits, of_bits}
use lib.Ieee.Bits.{nan_bits_above}
use borrow.Author.Tests.{ltb-true, ltb-false, le-leb, lt-leb, not-true, not-false}
use Rattle.columnar.specs.Row.{Row, double, seg}
use Rattle.columnar.specs.Array.{item, bit, ok, sight}
use Rattle.array_data.specs.Tables.{Tables, part, place, offset_of, valid_of, first_buffer}
use Rattle.array_data.proofs.lent_tables.Laws.{and_left, and_right, is_none, is_some}
use Rattle.frames.specs.declared.Frame.{Frame}
use Rattle.frames.specs.declared.Mask.{Mask}
use Rattle.frames.specs.Frames.{around, joined, Stop, is_number, counts, frame_of, widened, widened_by, framed}
use Rattle.frames.specs.Slots.{mask_of, slot_row, Holds, slot_stop, slot_stops, Passed, no_mask, mask_from, mask_place, Placed, lent_stops}
use Rattle.frames.specs.Box.{found}
use Rattle.std.specs.Prelude.{Ok, Err}

-- ---- one slot

pub no_mask_lem : (b : Bool) (m : List ℕ) (i : ℕ) → not b ≡ true → true ≡ ok (mask_of b m) i
no_mask_lem b m i h = ap (λ t. ok (mask_of t m) i) (sym (not-true b h))

pub one_bit : (b : Bool) (m : List ℕ) (i : ℕ) → not b ≡ false → eqb (get_or m (i / 8) 0 / 2 ^ (i % 8) % 2) 1 ≡ ok (mask_of b m) i
unfolding bit
one_bit b m i h = ap (λ t. ok (mask_of t m) i) (sym (not-false b h))

leb_not : (a b : ℕ) → leb a b ≡ not (ltb b a)
leb_not a b = go (ltb b a) refl
  where
    go : (t : Bool) → ltb b a ≡ t → leb a b ≡ not t
    go true e = lt-leb a b (ltb-true b a e)
    go false e = le-leb a b (ltb-false b a e)

pub number_test : (p : ℕ) → leb (p % 9223372036854775808) 9218868437227405312 ≡ not (nan_bits binary64 p)
number_test p = leb_not (p % 9223372036854775808) 9218868437227405312 ∙ ap not (sym (nan_bits_above binary64 p))

pub slot_number : (b : Bool) (p : ℕ) → b && not (nan_bits binary64 p) ≡ is_number (sight b (double p))
slot_number true p = refl
slot_number false p = refl

slot_known : (b : Bool) (p : ℕ) → is_number (sight b (double p)) ≡ true → (b ≡ true) × (nan_bits binary64 p ≡ false)
slot_known true p h = (refl, not-true (nan_bits binary64 p) h)
slot_known false p h = absurd (true≢false (sym h))

-- ---- one row

pub fewer : {values : List ℕ} {masked : Bool} {mask : List ℕ} {n : ℕ} (j : ℕ) → Holds values masked mask n → j ≤ n → Holds values masked mask j
fewer {values} {masked} {mask} {n} j h l = record { numbers = omega (arith, h.numbers); marks = λ m. let k = h.marks m in omega (arith, k) }

module _ (lat : List ℕ) (latMask : Option (List ℕ)) (lon : List ℕ) (lonMask : Option (List ℕ)) where
  pub lat_known : (a b : ℕ) → counts (slot_stop lat latMask lon lonMask a b) ≡ true → nan_bits binary64 (item 8 lat a) ≡ false
  lat_known a b h = (slot_known (ok latMask a) (item 8 lat a) (and_left (is_number (slot_row lat latMask a)) (is_number (slot_row lon lonMask b)) h)).1

  pub lon_known : (a b : ℕ) → counts (slot_stop lat latMask lon lonMask a b) ≡ true → nan_bits binary64 (item 8 lon b) ≡ false
  lon_known a b h = (slot_known (ok lonMask b) (item 8 lon b) (and_right (is_number (slot_row lat latMask a)) (is_number (slot_row lon lonMask b)) h)).1

  sighted : (b : Bool) (p : ℕ) → is_number (sight b (double p)) ≡ true → sight b (double p) ≡ double p
  sighted b p h = ap (λ t. sight t (double p)) (slot_known b p h).0

  pub its_frame : (a b : ℕ) → counts (slot_stop lat latMask lon lonMask a b) ≡ true
      → around (of_bits binary64 (item 8 lat a)) (of_bits binary64 (item 8 lon b)) ≡ frame_of (slot_stop lat latMask lon lonMask a b)
  its_frame a b h =
      ap₂ (λ y x. around (Rattle.frames.specs.Frames.float_of y) (Rattle.frames.specs.Frames.float_of x))
      (sym (sighted (ok latMask a) (item 8 lat a) (and_left (is_number (slot_row lat latMask a)) (is_number (slot_row lon lonMask b)) h)))
      (sym (sighted (ok lonMask b) (item 8 lon b) (and_right (is_number (slot_row lat latMask a)) (is_number (slot_row lon lonMask b)) h)))

-- what a row does to a frame, by whether it counts
pub row_counted : (f : Frame) (s : Stop) → counts s ≡ true → joined f (frame_of s) ≡ widened f s
row_counted f s h = ap (λ b. cond b (joined f (frame_of s)) f) (sym h)

pub row_passed : (f : Frame) (s : Stop) → counts s ≡ false → f ≡ widened f s
row_passed f s h = ap (λ b. cond b (joined f (frame_of s)) f) (sym h)

-- ---- rows in turn

pub next_row : {A : Type 0} (g : ℕ → A) (k n : ℕ) → k < n → seg g k (n - k) ≡ g k ∷ seg g (k + 1) (n - (k + 1))
next_row g k n l =
    let e : n - k ≡ suc (n - (k + 1)) = omega arith in
    ap (seg g k) e ∙ ap (λ j. g k ∷ seg g j (n - (k + 1))) (sym (add-one k))

pub no_row : {A : Type 0} (g : ℕ → A) (k n : ℕ) → n ≤ k → seg g k (n - k) ≡ []
no_row g k n l = let e : n - k ≡ 0 = omega arith in ap (seg g k) e

module _ (g : ℕ → Stop) where
  pub rows_start : (f : Frame) (n : ℕ) → widened_by f (seg g 0 (n - 0)) ≡ widened_by f (seg g 0 n)
  rows_start f n = let e : n - 0 ≡ n = omega arith in ap (λ k. widened_by f (seg g 0 k)) e

  pub rows_next : (f h : Frame) (k n : ℕ) → k < n → h ≡ widened f (g k) → widened_by f (seg g k (n - k)) ≡ widened_by h (seg g (k + 1) (n - (k + 1)))
  rows_next f h k n l e = ap (widened_by f) (next_row g k n l) ∙ ap (λ z. widened_by z (seg g (k + 1) (n - (k + 1)))) (sym e)

  pub rows_done : (f h : Frame) (k n : ℕ) → n ≤ k → widened_by f (seg g k (n - k)) ≡ h → f ≡ h
  rows_done f h k n l e = ap (widened_by f) (sym (no_row g k n l)) ∙ e

pub shift : {A : Type 0} (f g : ℕ → A) (a b n : ℕ) → ((i : ℕ) → f (a + i) ≡ g (b + i)) → seg f a n ≡ seg g b n
shift f g a b zero h = refl
shift f g a b (suc n) h =
    ap₂ ◌∷◌ (ap f (z a) ∙ h 0 ∙ ap g (sym (z b))) (shift f g (suc a) (suc b) n (λ i. ap f (s a i) ∙ h (suc i) ∙ ap g (sym (s b i))))
  where
    z : (k : ℕ) → k ≡ k + 0
    z k = omega arith

    s : (k i : ℕ) → suc k + i ≡ k + suc i
    s k i = omega arith

-- the rows behind the first k + 1
pub rows_behind : (lat : List ℕ) (latMask : Option (List ℕ)) (lon : List ℕ) (lonMask : Option (List ℕ)) (a b k n : ℕ)
    → slot_stops lat latMask lon lonMask (a + k + 1) (b + k + 1) n ≡ seg (λ j. slot_stop lat latMask lon lonMask (a + j) (b + j)) (k + 1) n
rows_behind lat latMask lon lonMask a b k n =
    shift _ (λ j. slot_stop lat latMask lon lonMask (a + j) (b + j)) 0 (k + 1) n (λ i. ap₂ (slot_stop lat latMask lon lonMask) (e a i) (e b i))
  where
    e : (s i : ℕ) → s + k + 1 + (0 + i) ≡ s + (k + 1 + i)
    e s i = omega arith

module _ (g : ℕ → Stop) (n : ℕ) where
  -- rows passed over change nothing
  passes : (r : ℕ) → r ≤ n → ((j : ℕ) → j < r → counts (g j) ≡ false) → framed (seg g 0 n) ≡ framed (seg g r (n - r))
  passes zero l h = let e : n ≡ n - 0 = omega arith in ap (λ k. framed (seg g 0 k)) e
  passes (suc r) l h =
      passes r (omega arith) (λ j q. h j (omega arith))
      ∙ ap framed (next_row g r n (omega arith))
      ∙ ap (λ b. cond b (some (widened_by (frame_of (g r)) (seg g (r + 1) (n - (r + 1))))) (framed (seg g (r + 1) (n - (r + 1))))) (h r (omega arith))
      ∙ ap (λ k. framed (seg g k (n - k))) (add-one r)

  pub all_passed : {r : ℕ} → Passed g n r → r ≡ n → Err 17 ≡ found (framed (seg g 0 n))
  all_passed {r} p e = ap found (sym (passes r p.some_left p.none_counts ∙ ap framed (no_row g r n (omega arith))))

  pub first_counted : {r : ℕ} → Passed g n r → r < n → Ok (widened_by (frame_of (g r)) (seg g (r + 1) (n - (r + 1)))) ≡ found (framed (seg g 0 n))
  first_counted {r} p l =
      ap found
      (sym
      (passes r p.some_left p.none_counts
      ∙ ap framed (next_row g r n l)
      ∙ ap (λ b. cond b (some (widened_by (frame_of (g r)) (seg g (r + 1) (n - (r + 1))))) (framed (seg g (r + 1) (n - (r + 1))))) (p.next_counts l)))

-- ---- a node's validity

pub range_size : (a b : ℕ) → a + b - a ≡ b
range_size a b = omega arith

module _ (x : Tables) (k : ℕ) where
  pub mask_none : {p : ℕ} → p ≡ place x k 0 → p ≡ 0 → no_mask ≡ mask_place x k
  mask_none e h = rw (is_none e h)

  pub mask_given : {p at size : ℕ} → p ≡ place x k 0 → (p ≡ 0 → ⊥) → at ≡ place x k 1 → size ≡ place x k 2 → mask_from at size ≡ mask_place x k
  mask_given e h a s = rw (is_some e h, a, s)

  pub mask_order : (mask_place x k).at ≤ (mask_place x k).end
  mask_order = go (eqb (place x k 0) 0)
    where
      go : (b : Bool) → (cond b no_mask (mask_from (place x k 1) (place x k 2))).at ≤ (cond b no_mask (mask_from (place x k 1) (place x k 2))).end
      go true = omega arith
      go false = omega arith

  -- a part of the body by its start and end
  pub mask_is : mask_of (mask_place x k).given (part x.body (mask_place x k).at ((mask_place x k).end - (mask_place x k).at)) ≡ valid_of x k
  mask_is = go (eqb (place x k 0) 0)
    where
      go : (b : Bool) → mask_of (cond b no_mask (mask_from (place x k 1) (place x k 2))).given (part x.body (cond b no_mask (mask_from (place x k 1) (place x k 2))).at ((cond b no_mask (mask_from (place x k 1) (place x k 2))).end - (cond b no_mask (mask_from (place x k 1) (place x k 2))).at)) ≡ cond b none (some (part x.body (place x k 1) (place x k 2)))
      go true = refl
      go false = ap (λ z. some (part x.body (place x k 1) z)) (range_size (place x k 1) (place x k 2))

  pub values_are : {at size : ℕ} → at ≡ place x k 3 → size ≡ place x k 4 → take (at + size - at) (drop at x.body) ≡ first_buffer x k
  values_are {at} {size} a s = ap (λ z. take z (drop at x.body)) (range_size at size) ∙ ap₂ (λ z w. take z (drop w x.body)) s a

  pub masks_are : {m : Mask} → m ≡ mask_place x k → mask_of m.given (take (m.end - m.at) (drop m.at x.body)) ≡ valid_of x k
  masks_are e = ap (λ m. mask_of m.given (take (m.end - m.at) (drop m.at x.body))) e ∙ mask_is

  pub node_holds : {at size : ℕ} {m : Mask} {n : ℕ} → Placed x k n → at ≡ place x k 3 → size ≡ place x k 4 → m ≡ mask_place x k
      → Holds (take (at + size - at) (drop at x.body)) m.given (take (m.end - m.at) (drop m.at x.body)) n
  node_holds {at} {size} {m} {n} h a s e =
      record {
        numbers = omega (arith, length-take (at + size - at) (drop at x.body), length-drop at x.body, h.values_in, h.values_hold);
        marks = λ t.
            let q = h.mask_holds (sym (ap (λ z. z.given) e) ∙ t) in
            let u : m.at ≡ (mask_place x k).at = ap (λ z. z.at) e in
            let v : m.end ≡ (mask_place x k).end = ap (λ z. z.end) e in
            omega (arith, length-take (m.end - m.at) (drop m.at x.body), length-drop m.at x.body, h.mask_in_lem, mask_order);
      }

pub lent_rows : (x : Tables) (a b start n : ℕ) {v w : List ℕ} {m l : Option (List ℕ)} {p q : ℕ} → v ≡ first_buffer x a → m ≡ valid_of x a → w ≡ first_buffer x b → l ≡ valid_of x b
    → p ≡ offset_of x a → q ≡ offset_of x b → slot_stops v m w l (p + start) (q + start) n ≡ lent_stops x a b start n
lent_rows x a b start n {v} {w} {m} {l} {p} {q} e1 e2 e3 e4 e5 e6 =
    ap (λ z. slot_stops z m w l (p + start) (q + start) n) e1
    ∙ ap (λ z. slot_stops (first_buffer x a) z w l (p + start) (q + start) n) e2
    ∙ ap (λ z. slot_stops (first_buffer x a) (valid_of x a) z l (p + start) (q + start) n) e3
    ∙ ap (λ z. slot_stops (first_buffer x a) (valid_of x a) (first_buffer x b) z (p + start) (q + start) n) e4
    ∙ ap (λ z. slot_stops (first_buffer x a) (valid_of x a) (first_buffer x b) (valid_of x b) (z + start) (q + start) n) e5
    ∙ ap (λ z. slot_stops (first_buffer x a) (valid_of x a) (first_buffer x b) (valid_of x b) (offset_of x a + start) (z + start) n) e6
