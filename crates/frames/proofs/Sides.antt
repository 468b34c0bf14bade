-- THE SIDES OF A FRAME: from counted rows, the first of equals, and no counted row outside. Assumes nothing.
use mathlib.Core.Path.{◌≡◌, refl, sym, ap, subst, ◌∙◌}
use mathlib.Core.Bool.{Bool, true, false, not, cond, true≢false}
use mathlib.Core.Option.{Option, none, some}
use mathlib.Core.List.{List, [], ◌∷◌, ◌++◌, Memᴰ}
use Prim.Native.Nat.{ℕ, ◌<◌, ◌^◌}
use native.Mathlib.Omega.{arith}
use lib.Dec.{T}
use lib.Ieee.{Float, binary64, nan_bits, of_bits, to_bits, is_nan}
use lib.Ieee.Bits.{to_bits-of_bits, nan_bits_is}
use borrow.Author.Tests.{not-true}
use Rattle.columnar.specs.Row.{Row, null, whole, single, double, bytes, list, union}
use Rattle.array_data.proofs.lent_tables.Laws.{and_left, and_right}
use Rattle.frames.specs.float_order.Order.{first_by}
use Rattle.frames.proofs.float_order.Weak.{Weak, asym, not_under}
use Rattle.frames.specs.declared.Frame.{Frame}
use Rattle.frames.specs.Frames.{joined, Stop, is_number, float_of, counts, frame_of, widened_by, framed, together}
use Rattle.frames.specs.Sides.{Side, least_latitude, most_latitude, least_longitude, most_longitude, side_of, outside, row_of, value_of, EachCounted, FromRow, FirstMet}
use Rattle.frames.proofs.Frames.{weak, joined_side, stop_side, Numbers, stop_numbers, widened_by_numbers, cons_counted, cons_passed}

-- ---- what a frame of rows is, by its first row

none_some : {A : Type 0} {f : Frame} → ◌≡◌ {A = Option Frame} none (some f) → A
none_some e = let z : ◌≡◌ {A = ℕ} 0 1 = cc in absurd (omega arith)

is_some : {f g : Frame} → ◌≡◌ {A = Option Frame} (some f) (some g) → f ≡ g
is_some e = cc

framed_numbers : (ss : List Stop) (f : Frame) → framed ss ≡ some f → Numbers f
framed_numbers [] f e = none_some e
framed_numbers (s ∷ ss) f e = go (counts s) refl (framed_numbers ss f) e
  where
    go : (b : Bool) → counts s ≡ b → (framed ss ≡ some f → Numbers f) → cond b (some (widened_by (frame_of s) ss)) (framed ss) ≡ some f → Numbers f
    go true c ih e = subst Numbers (is_some e) (widened_by_numbers (frame_of s) ss (stop_numbers s c))
    go false c ih e = ih e

-- ---- the first of equals

module _ (d : Side) where
  more_before : (u : Stop) (us : List Stop) (v : Float) → (counts u ≡ true → outside d v (value_of d u) ≡ true) → FirstMet d v us → FirstMet d v (u ∷ us)
  more_before u us v h m =
      record {
        before = u ∷ m.before;
        stop = m.stop;
        after = m.after;
        among = ap (λ l. u ∷ l) m.among;
        counted = m.counted;
        its_value = m.its_value;
        earlier = (h, m.earlier);
      }

  at_once : (u : Stop) (us : List Stop) → counts u ≡ true → FirstMet d (side_of d (frame_of u)) (u ∷ us)
  at_once u us h =
      record {
        before = [];
        stop = u;
        after = us;
        among = refl;
        counted = h;
        its_value = stop_side d u;
        earlier = tt;
      }

  -- the first row's side, or that of the rows behind it
  either : (u : Stop) (us : List Stop) (g : Frame) → counts u ≡ true → FirstMet d (side_of d g) us
      → FirstMet d (first_by (outside d) (side_of d (frame_of u)) (side_of d g)) (u ∷ us)
  either u us g h m = go (outside d (side_of d g) (side_of d (frame_of u))) refl
    where
      go : (b : Bool) → outside d (side_of d g) (side_of d (frame_of u)) ≡ b → FirstMet d (cond b (side_of d g) (side_of d (frame_of u))) (u ∷ us)
      go true e = more_before u us (side_of d g) (λ c. subst (λ v. outside d (side_of d g) v ≡ true) (stop_side d u) e) m
      go false e = at_once u us h

-- THE FIRST OF EQUALS: each side is the value of a counted row, and every counted row before that one lies strictly inside of it
pub first_of_equals : (ss : List Stop) (f : Frame) → framed ss ≡ some f → (d : Side) → FirstMet d (side_of d f) ss
first_of_equals [] f e d = none_some e
first_of_equals (u ∷ us) f e d = go (counts u) refl (framed us) refl (λ g h. first_of_equals us g h d)
  where
    go : (b : Bool) → counts u ≡ b → (o : Option Frame) → framed us ≡ o → ((g : Frame) → framed us ≡ some g → FirstMet d (side_of d g) us)
        → FirstMet d (side_of d f) (u ∷ us)
    go true c none h ih =
        let i : frame_of u ≡ f = is_some (sym (cons_counted u us c ∙ ap (together (some (frame_of u))) h) ∙ e) in
        subst (λ k. FirstMet d (side_of d k) (u ∷ us)) i (at_once d u us c)
    go true c (some g) h ih =
        let i : joined (frame_of u) g ≡ f = is_some (sym (cons_counted u us c ∙ ap (together (some (frame_of u))) h) ∙ e) in
        subst (λ v. FirstMet d v (u ∷ us)) (sym (joined_side d (frame_of u) g) ∙ ap (side_of d) i) (either d u us g c (ih g h))
    go false c o h ih =
        more_before d u us (side_of d f) (λ t. absurd (true≢false (sym t ∙ c))) (ih f (sym (cons_passed u us c) ∙ e))

-- ---- from rows, by bits

record Bits (r : Row) : Type 0 where
  bits : ℕ
  its_row : r ≡ double bits
  no_nan : nan_bits binary64 bits ≡ false

number_bits : (r : Row) → is_number r ≡ true → Bits r
number_bits null h = absurd (true≢false (sym h))
number_bits (whole z) h = absurd (true≢false (sym h))
number_bits (single p) h = absurd (true≢false (sym h))
number_bits (double p) h = record { bits = p; its_row = refl; no_nan = not-true (nan_bits binary64 p) h }
number_bits (bytes s) h = absurd (true≢false (sym h))
number_bits (list rs) h = absurd (true≢false (sym h))
number_bits (union i r) h = absurd (true≢false (sym h))

row_number : (d : Side) (s : Stop) → counts s ≡ true → is_number (row_of d s) ≡ true
row_number least_latitude s h = and_left (is_number s.latitude) (is_number s.longitude) h
row_number most_latitude s h = and_left (is_number s.latitude) (is_number s.longitude) h
row_number least_longitude s h = and_right (is_number s.latitude) (is_number s.longitude) h
row_number most_longitude s h = and_right (is_number s.latitude) (is_number s.longitude) h

bits_back : (p : ℕ) → p < 2 ^ 64 → nan_bits binary64 p ≡ false → to_bits binary64 (of_bits binary64 p) ≡ p
bits_back p l e = to_bits-of_bits binary64 p l (subst (λ b. T (not b)) (sym e ∙ nan_bits_is binary64 p) tt)

middle : (us : List Stop) (s : Stop) (vs : List Stop) → Memᴰ s (us ++ (s ∷ vs))
middle [] s vs = Memᴰ.head refl
middle (u ∷ us) s vs = Memᴰ.tail (middle us s vs)

-- EACH SIDE IS A VALUE FROM A COUNTED ROW, bit by bit
pub sides_from_rows : (ss : List Stop) (f : Frame) → framed ss ≡ some f → (d : Side) → FromRow d (side_of d f) ss
sides_from_rows ss f e d =
    let m = first_of_equals ss f e d in
    let b = number_bits (row_of d m.stop) (row_number d m.stop m.counted) in
    record {
      stop = m.stop;
      among = subst (Memᴰ m.stop) (sym m.among) (middle m.before m.stop m.after);
      counted = m.counted;
      bits = b.bits;
      its_row = b.its_row;
      its_bits = λ l. ap (to_bits binary64) (m.its_value ∙ ap float_of b.its_row) ∙ bits_back b.bits l b.no_nan;
    }

-- ---- no counted row outside

module _ (d : Side) where
  -- what holds of a value holds of another that it is not outside of
  outer : (ss : List Stop) (v w : Float) → is_nan v ≡ false → outside d v w ≡ false
      → EachCounted (λ s. outside d (value_of d s) v ≡ false) ss → EachCounted (λ s. outside d (value_of d s) w ≡ false) ss
  outer [] v w n h k = tt
  outer (s ∷ ss) v w n h k = (λ c. not_under (outside d) (weak d) (value_of d s) v w n (k.0 c) h, outer ss v w n h k.1)

  none_counted_outside : (ss : List Stop) (v : Float) → framed ss ≡ none → EachCounted (λ s. outside d (value_of d s) v ≡ false) ss
  none_counted_outside [] v e = tt
  none_counted_outside (s ∷ ss) v e = go (counts s) refl (none_counted_outside ss v) e
    where
      go : (b : Bool) → counts s ≡ b → (framed ss ≡ none → EachCounted (λ s. outside d (value_of d s) v ≡ false) ss)
          → cond b (some (widened_by (frame_of s) ss)) (framed ss) ≡ none → EachCounted (λ s. outside d (value_of d s) v ≡ false) (s ∷ ss)
      go true c ih e = none_some (sym e)
      go false c ih e = (λ t. absurd (true≢false (sym t ∙ c)), ih e)

  own_side : (s : Stop) → outside d (value_of d s) (side_of d (frame_of s)) ≡ false
  own_side s = subst (λ v. outside d (value_of d s) v ≡ false) (sym (stop_side d s)) ((weak d).irr (value_of d s))

  both_outside : (u : Stop) (us : List Stop) (g : Frame) → Numbers g → EachCounted (λ s. outside d (value_of d s) (side_of d g) ≡ false) us
      → EachCounted (λ s. outside d (value_of d s) (first_by (outside d) (side_of d (frame_of u)) (side_of d g)) ≡ false) (u ∷ us)
  both_outside u us g n k = go (outside d (side_of d g) (side_of d (frame_of u))) refl
    where
      go : (b : Bool) → outside d (side_of d g) (side_of d (frame_of u)) ≡ b
          → EachCounted (λ s. outside d (value_of d s) (cond b (side_of d g) (side_of d (frame_of u))) ≡ false) (u ∷ us)
      go true e = (λ c. subst (λ v. outside d v (side_of d g) ≡ false) (stop_side d u) (asym (outside d) (weak d) (side_of d g) (side_of d (frame_of u)) e), k)
      go false e = (λ c. own_side u, outer us (side_of d g) (side_of d (frame_of u)) (n d) e k)

-- NO COUNTED ROW LIES OUTSIDE
pub none_outside : (ss : List Stop) (f : Frame) → framed ss ≡ some f → (d : Side) → EachCounted (λ s. outside d (value_of d s) (side_of d f) ≡ false) ss
none_outside [] f e d = tt
none_outside (u ∷ us) f e d = go (counts u) refl (framed us) refl (λ g h. none_outside us g h d)
  where
    go : (b : Bool) → counts u ≡ b → (o : Option Frame) → framed us ≡ o
        → ((g : Frame) → framed us ≡ some g → EachCounted (λ s. outside d (value_of d s) (side_of d g) ≡ false) us)
        → EachCounted (λ s. outside d (value_of d s) (side_of d f) ≡ false) (u ∷ us)
    go true c none h ih =
        let i : frame_of u ≡ f = is_some (sym (cons_counted u us c ∙ ap (together (some (frame_of u))) h) ∙ e) in
        subst (λ k. EachCounted (λ s. outside d (value_of d s) (side_of d k) ≡ false) (u ∷ us)) i (λ t. own_side d u, none_counted_outside d us (side_of d (frame_of u)) h)
    go true c (some g) h ih =
        let i : joined (frame_of u) g ≡ f = is_some (sym (cons_counted u us c ∙ ap (together (some (frame_of u))) h) ∙ e) in
        subst (λ v. EachCounted (λ s. outside d (value_of d s) v ≡ false) (u ∷ us)) (sym (joined_side d (frame_of u) g) ∙ ap (side_of d) i)
        (both_outside d u us g (framed_numbers us g h) (ih g h))
    go false c o h ih = (λ t. absurd (true≢false (sym t ∙ c)), ih f (sym (cons_passed u us c) ∙ e))

-- ---- no frame exactly where no row counts

pub none_counts : (ss : List Stop) → framed ss ≡ none → EachCounted (λ s. ⊥) ss
none_counts [] e = tt
none_counts (s ∷ ss) e = go (counts s) refl (none_counts ss) e
  where
    go : (b : Bool) → counts s ≡ b → (framed ss ≡ none → EachCounted (λ s. ⊥) ss) → cond b (some (widened_by (frame_of s) ss)) (framed ss) ≡ none → EachCounted (λ s. ⊥) (s ∷ ss)
    go true c ih e = none_some (sym e)
    go false c ih e = (λ t. true≢false (sym t ∙ c), ih e)

pub no_frame : (ss : List Stop) → EachCounted (λ s. ⊥) ss → framed ss ≡ none
no_frame [] h = refl
no_frame (s ∷ ss) h = go (counts s) refl (no_frame ss h.1)
  where
    go : (b : Bool) → counts s ≡ b → framed ss ≡ none → cond b (some (widened_by (frame_of s) ss)) (framed ss) ≡ none
    go true c ih = absurd (h.0 c)
    go false c ih = ih
