-- A slot that obeys its rule reads as the Columnar Format says: numbers, byte strings, views, stored bytes. Assumes nothing.
use mathlib.Core.Path.{◌≡◌, refl, ap, sym, subst, ◌∙◌}
use mathlib.Core.Bool.{Bool, true, false, cond}
use mathlib.Core.Option.{Option, none, some}
use mathlib.Core.List.{List}
use Prim.Native.Nat.{ℕ, zero, suc, ◌+◌, ◌*◌, ◌-◌, ◌/◌, ◌≤◌, ◌<◌}
use native.Mathlib.Numerals.{add-one}
use native.Mathlib.Omega.{arith}
use lib.ListN.{length, take, drop, get_or, length-take, get_or-eq_default}
use lib.Seq.{drop-drop, get_or-drop, get_or-take}
use lib.Dec.{ltb}
use borrow.Author.Tests.{lt-ltb, ltb-true, ltb-false}
use Rattle.columnar.specs.Row.{Row, bytes}
use Rattle.columnar.specs.Types.{Number, int, uint, w1, w2, w4, w8, f32, f64, width}
use Rattle.columnar.specs.Formed.{OffsetWidth, four, eight}
use Rattle.columnar.specs.Array.{item, ok, sight, Mask}
use Rattle.columnar.specs.Plain.{value, span, OffsetsTo, Offsets}
use Rattle.columnar.proofs.Items.{entry_end, item_lt}
use Rattle.array_data.specs.Tables.{part}
use Rattle.slot_reader.specs.leaf_row.Reading.{leaf_of}
use Rattle.slot_reader.proofs.leaf_row.Laws.{leaf_row}
use Rattle.array_data.specs.entries.Entries.{holds, sized, entry_in, valid_bit, valid_in}
use Rattle.array_data.proofs.entries.Laws.{cut, holds_in, entry_yes}
use Rattle.slot_reader.specs.declared.RowRead.{RowRead}
use Rattle.slot_reader.specs.declared.RowRead.TheVariants as row
use Rattle.slot_reader.specs.Slots.{number_read, string_read, list_read, stored_number, entry_by}
use Rattle.slot_reader.proofs.Laws.{stretch_in_lem, rows_in_lem}
use Rattle.row_reader.specs.Walk.{is_refused}
use Rattle.row_reader.specs.meaning.Meaning.{flat}
use Rattle.std.specs.Prelude.{Some}

-- the answer is no refusal, and stands for this row
pub record Gives (body : List ℕ) (r : RowRead) (want : Row) : Type 0 where
  pub accepted : is_refused r ≡ false
  pub means : flat body r ≡ want

-- ---- widths

pub wide : (m : Number) → 1 ≤ width m
wide (int w1) = omega arith
wide (uint w1) = omega arith
wide (int w2) = omega arith
wide (uint w2) = omega arith
wide (int w4) = omega arith
wide (uint w4) = omega arith
wide (int w8) = omega arith
wide (uint w8) = omega arith
wide f32 = omega arith
wide f64 = omega arith

pub number_sized : (m : Number) → sized (width m) ≡ true
number_sized (int w1) = refl
number_sized (uint w1) = refl
number_sized (int w2) = refl
number_sized (uint w2) = refl
number_sized (int w4) = refl
number_sized (uint w4) = refl
number_sized (int w8) = refl
number_sized (uint w8) = refl
number_sized f32 = refl
number_sized f64 = refl

pub offset_sized : (w : ℕ) → OffsetWidth w → sized w ≡ true
offset_sized w four = refl
offset_sized w eight = refl

pub offset_wide : (w : ℕ) → OffsetWidth w → 1 ≤ w
offset_wide w four = omega arith
offset_wide w eight = omega arith

-- ---- entries

pub holds_slot : (w : ℕ) (s : List ℕ) (k n : ℕ) → 1 ≤ w → n * w ≤ length s → k < n → holds w s k ≡ true
holds_slot w s k n a h l = let e : k * w + w ≤ n * w = entry_end w l in holds_in w s k a (omega arith)

pub entry_slot : (w : ℕ) (s : List ℕ) (k n : ℕ) → 1 ≤ w → sized w ≡ true → n * w ≤ length s → k < n → entry_in w s k ≡ Some (item w s k)
entry_slot w s k n a z h l = sym (entry_yes w s k z (holds_slot w s k n a h l))

-- ---- bytes of a buffer that is a part of the body

pub part_of_lem : (body : List ℕ) (start size a l : ℕ) → a + l ≤ length (part body start size) → part body (start + a) l ≡ take l (drop a (part body start size))
part_of_lem body start size a l h =
    ap (take l) (sym (drop-drop a start body)) ∙ sym (cut a l size (drop start body) (omega (arith, length-take size (drop start body))))

part_bytes : (body : List ℕ) → ((j : ℕ) → get_or body j 0 < 256) → (start size j : ℕ) → get_or (part body start size) j 0 < 256
part_bytes body small start size j = go (ltb j size) refl
  where
    go : (b : Bool) → ltb j size ≡ b → get_or (part body start size) j 0 < 256
    go true e = rw (get_or-take size (drop start body) j 0 (ltb-true j size e), get_or-drop start body j 0) (small (start + j))
    go false e =
        let past : length (part body start size) ≤ j = omega (arith, length-take size (drop start body), ltb-false j size e) in
        let z = get_or-eq_default (part body start size) 0 past in
        omega (arith, z)

-- ---- a number

module _ (body : List ℕ) (small : (j : ℕ) → get_or body j 0 < 256) where
  pub number_gives : (m : Number) (start size k n : ℕ) → n * width m ≤ length (part body start size) → k < n
      → Gives body (number_read m (part body start size) k) (value m (item (width m) (part body start size) k))
  unfolding number_read
  number_gives m start size k n h l =
      let s = part body start size in
      subst (λ b. Gives body (cond b (row.Number (leaf_of m (item (width m) s k))) (row.Refused 12)) (value m (item (width m) s k)))
      (sym (holds_slot (width m) s k n (wide m) h l))
      (record { accepted = refl; means = leaf_row m (item (width m) s k) (item_lt (width m) s (part_bytes body small start size) k) })

  -- ---- stored numbers

  pub stored_gives : (m : Number) (start size k n : ℕ) → n * width m ≤ length (part body start size) → k < n
      → Gives body (stored_number start (width m) (part body start size) k) (bytes (take (width m) (drop (k * width m) (part body start size))))
  unfolding stored_number
  stored_gives m start size k n h l =
      let s = part body start size in
      let e : k * width m + width m ≤ n * width m = entry_end (width m) l in
      subst (λ b. Gives body (cond b (row.Bytes (start + k * width m) (width m)) (row.Refused 12)) (bytes (take (width m) (drop (k * width m) s))))
      (sym (holds_slot (width m) s k n (wide m) h l))
      (record { accepted = refl; means = ap bytes (part_of_lem body start size (k * width m) (width m) (omega arith)) })

-- ---- offsets that obey: from one to the next, within what they lead into

climbs : (f : ℕ → ℕ) (off len : ℕ) → ((i : ℕ) → i < len → f (off + i) ≤ f (off + i + 1)) → (i d : ℕ) → i + d ≤ len → f (off + i) ≤ f (off + (i + d))
climbs f off len h i zero l = let e : off + (i + zero) ≡ off + i = omega arith in omega (arith, ap f e)
climbs f off len h i (suc d) l =
    let e : off + (i + suc d) ≡ off + (i + d) + 1 = omega arith in
    omega (arith, ap f e, climbs f off len h i d (omega arith), h (i + d) (omega arith))

module _ (w : ℕ) (s : List ℕ) (most off len r : ℕ) (ow : OffsetWidth w) (o : OffsetsTo w s most off len) (l : r < len) where
  first_entry_lem : entry_in w s (off + r) ≡ Some (item w s (off + r))
  first_entry_lem = entry_slot w s (off + r) (off + len + 1) (offset_wide w ow) (offset_sized w ow) o.hold (omega arith)

  next_entry : entry_in w s (suc (off + r)) ≡ Some (item w s (suc (off + r)))
  next_entry = entry_slot w s (suc (off + r)) (off + len + 1) (offset_wide w ow) (offset_sized w ow) o.hold (omega arith)

  rises : item w s (off + r) ≤ item w s (suc (off + r))
  rises = subst (λ z. item w s (off + r) ≤ item w s z) (add-one (off + r)) (o.rises r l)

  within : item w s (suc (off + r)) ≤ most
  within =
      let f : off + (r + 1 + (len - (r + 1))) ≡ off + len = omega arith in
      let g : off + (r + 1) ≡ suc (off + r) = omega arith in
      let high : item w s (off + (r + 1)) ≤ item w s (off + (r + 1 + (len - (r + 1)))) = climbs (item w s) off len o.rises (r + 1) (len - (r + 1)) (omega arith) in
      omega (arith, high, ap (item w s) f, ap (item w s) g, o.within)

  -- a list: the rows that its two offsets say
  pub list_rows_lem : (child : ℕ) → list_read w s child most (off + r) ≡ row.List child (item w s (off + r)) (item w s (suc (off + r)) - item w s (off + r))
  list_rows_lem child = rw (first_entry_lem, next_entry) (sym (rows_in_lem child most (item w s (off + r)) (item w s (suc (off + r))) within rises))

-- ---- byte strings

pub string_gives : (body : List ℕ) (w : ℕ) (s : List ℕ) (start size off len r : ℕ) → OffsetWidth w
    → Offsets w (record { offsets = s; chars = part body start size }) off len → r < len
    → Gives body (string_read w s start (part body start size) (off + r)) (bytes (span w (record { offsets = s; chars = part body start size }) (off + r)))
string_gives body w s start size off len r ow o l =
    let k = off + r in
    let c = part body start size in
    let a = item w s k in
    let b = item w s (suc k) in
    let up : a ≤ b = rises w s (length c) off len r ow o l in
    let top : b ≤ length c = within w s (length c) off len r ow o l in
    let z : string_read w s start c k ≡ row.Bytes (start + a) (b - a) =
    rw (first_entry_lem w s (length c) off len r ow o l, next_entry w s (length c) off len r ow o l) (sym (stretch_in_lem start c a b (length c) refl top up)) in
    subst (λ x. Gives body x (bytes (span w (record { offsets = s; chars = c }) k))) (sym z)
    (record { accepted = refl; means = ap bytes (part_of_lem body start size a (b - a) (omega arith)) })

-- ---- an entry of a dictionary, by its bit

pub entry_gives : (body : List ℕ) (b : Bool) (r : RowRead) (want : Row) → Gives body r want → Gives body (entry_by (valid_bit b) r) (sight b want)
entry_gives body true r want g = g
entry_gives body false r want g = record { accepted = refl; means = refl }

-- ---- a bit

pub valid_known : (b : Bool) (v : Option (List ℕ)) (n k : ℕ) → Mask b v n → k < n → valid_in v k ≡ valid_bit (ok v k)
valid_known b none n k h l = refl
valid_known true (some m) n k h l = rw (lt-ltb (k / 8) (length m) (omega arith))
valid_known false (some m) n k h l = absurd h
