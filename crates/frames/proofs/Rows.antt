-- EACH SIDE OF A BOX has the bits of a counted row of the range, by the row's number. Assumes nothing.
use mathlib.Core.Path.{◌≡◌, refl, sym, ap, subst, ◌∙◌}
use mathlib.Core.Bool.{Bool, true, false, ◌&&◌}
use mathlib.Core.Option.{Option}
use mathlib.Core.List.Memᴰ
use mathlib.Core.List.{List, [], ◌∷◌, Memᴰ}
use Prim.Native.Nat.{ℕ, zero, suc, ◌+◌, ◌-◌, ◌^◌, ◌≤◌, ◌<◌}
use native.Mathlib.Omega.{arith}
use lib.Dec.{ltb}
use lib.ListN.{length, take, drop, get_or, length-take, get_or-eq_default}
use lib.Seq.{get_or-drop, get_or-take}
use lib.Ieee.{binary64, to_bits}
use borrow.Author.Tests.{ltb-true, ltb-false}
use Rattle.columnar.specs.Row.{Row, null, double, seg}
use Rattle.columnar.specs.Array.{item, ok, sight}
use Rattle.columnar.proofs.Items.{item_lt}
use Rattle.array_data.specs.Tables.{Tables, part, place, offset_of, valid_of, first_buffer}
use Rattle.array_data.proofs.lent_tables.Laws.{and_left, and_right}
use Rattle.columns.specs.Grounds.{column_ground}
use Rattle.columns.specs.column_pair.Pair.{range_in}
use Rattle.columns.proofs.column_pair.Pair.{pair_none, range_known}
use Rattle.frames.specs.declared.Frame.{Frame}
use Rattle.frames.specs.Frames.{Stop, counts}
use Rattle.frames.specs.Sides.{Side, least_latitude, most_latitude, least_longitude, most_longitude, side_of, row_of, FromRow, AtRow}
use Rattle.frames.specs.Slots.{slot_row}
use Rattle.frames.specs.Box.{is_double, row_at, stop_at, stops, box_of}
use Rattle.frames.proofs.Sides.{sides_from_rows}
use Rattle.frames.proofs.Box.{row_is, Answered, box_frame}
use Rattle.std.specs.Prelude.{Ok}

-- ---- where an element of a stretch stands

record Found (g : ℕ → Stop) (a n : ℕ) (s : Stop) : Type 0 where
  at : ℕ
  low : a ≤ at
  high : at < a + n
  is : s ≡ g at

found_in : (g : ℕ → Stop) (a n : ℕ) (s : Stop) → Memᴰ s (seg g a n) → Found g a n s
found_in g a zero s h = absurd (Memᴰ.not-nil h)
found_in g a (suc n) s (Memᴰ.head e) = record { at = a; low = omega arith; high = omega arith; is = e }
found_in g a (suc n) s (Memᴰ.tail h) =
    let f = found_in g (suc a) n s h in
    record { at = f.at; low = omega (arith, f.low); high = omega (arith, f.high); is = f.is }

-- ---- the bits of a slot

part_bytes : (body : List ℕ) → ((j : ℕ) → get_or body j 0 < 256) → (start size j : ℕ) → get_or (part body start size) j 0 < 256
part_bytes body small start size j = go (ltb j size) refl
  where
    go : (b : Bool) → ltb j size ≡ b → get_or (part body start size) j 0 < 256
    go true e = rw (get_or-take size (drop start body) j 0 (ltb-true j size e), get_or-drop start body j 0) (small (start + j))
    go false e =
        let past : length (part body start size) ≤ j = omega (arith, length-take size (drop start body), ltb-false j size e) in
        let z = get_or-eq_default (part body start size) 0 past in
        omega (arith, z)

seen_bits : (b : Bool) (p q : ℕ) → sight b (double p) ≡ double q → p ≡ q
seen_bits true p q e = cc
seen_bits false p q e = let z : ◌≡◌ {A = ℕ} 0 1 = cc in absurd (omega arith)

slot_bits : (values : List ℕ) (mask : Option (List ℕ)) (i q : ℕ) → ((j : ℕ) → get_or values j 0 < 256) → slot_row values mask i ≡ double q → q < 2 ^ 64
slot_bits values mask i q small e = let l = item_lt 8 values small i in omega (arith, l, seen_bits (ok mask i) (item 8 values i) q e)

module _ (formats schema : List ℕ) (x : Tables) (a n b m : ℕ) (bytes : (j : ℕ) → get_or x.body j 0 < 256) where
  column_bits : (first k : ℕ) → column_ground formats schema x first k ≡ 0 → is_double formats schema first k ≡ true → (i q : ℕ) → row_at formats schema x first k i ≡ double q → q < 2 ^ 64
  column_bits first k h d i q e =
      slot_bits (first_buffer x first) (valid_of x first) (offset_of x first + i) q (part_bytes x.body bytes (place x first 3) (place x first 4)) (sym (row_is formats schema x first k h d i) ∙ e)

  module _ (start end : ℕ) (f : Frame) (h : box_of formats schema x a n b m start end ≡ Ok f) where
    known : Answered formats schema x a n b m start end f
    known = box_frame formats schema x a n b m start end f h

    side_bits : (d : Side) (i q : ℕ) → row_of d (stop_at formats schema x a n b m i) ≡ double q → q < 2 ^ 64
    side_bits d i q =
        let g = pair_none (column_ground formats schema x a n) (column_ground formats schema x b m) known.accepted in
        let u = column_bits a n g.0 (and_left (is_double formats schema a n) (is_double formats schema b m) known.doubles) i q in
        let v = column_bits b m g.1 (and_right (is_double formats schema a n) (is_double formats schema b m) known.doubles) i q in
        go d u v
      where
        go : (d : Side) → (row_at formats schema x a n i ≡ double q → q < 2 ^ 64) → (row_at formats schema x b m i ≡ double q → q < 2 ^ 64)
            → row_of d (stop_at formats schema x a n b m i) ≡ double q → q < 2 ^ 64
        go least_latitude u v = u
        go most_latitude u v = u
        go least_longitude u v = v
        go most_longitude u v = v

    -- EACH SIDE, by its row's number: the bits are those that the Columnar Format reads there
    pub box_sides : (d : Side) → AtRow d (side_of d f) (stop_at formats schema x a n b m) start end
    box_sides d =
        let r = sides_from_rows (stops formats schema x a n b m start end) f known.its_frame d in
        let i = found_in (stop_at formats schema x a n b m) start (end - start) r.stop r.among in
        let w = range_known x a start end (and_left (range_in x a start end) (range_in x b start end) known.ranges) in
        let row : row_of d (stop_at formats schema x a n b m i.at) ≡ double r.bits = ap (row_of d) (sym i.is) ∙ r.its_row in
        record {
          row = i.at;
          from = i.low;
          to = omega (arith, i.high, w.0);
          counted = ap counts (sym i.is) ∙ r.counted;
          its_bits = row ∙ ap double (sym (r.its_bits (side_bits d i.at r.bits row)));
        }
