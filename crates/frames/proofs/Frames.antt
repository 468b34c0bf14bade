-- FRAMES OF LISTS OF ROWS: each side is a counted row's value, the first of equals, no counted row lies outside, and the frame of two lists is
-- joined from both. Assumes nothing.
use mathlib.Core.Path.{◌≡◌, refl, sym, ap, subst, ◌∙◌}
use mathlib.Core.Bool.{Bool, true, false, not, cond, ◌&&◌, true≢false}
use mathlib.Core.Option.{Option, none, some}
use mathlib.Core.List.{List, [], ◌∷◌, ◌++◌}
use Prim.Native.Nat.{ℕ}
use native.Mathlib.Omega.{arith}
use lib.Ieee.{Float, binary64, nan_bits, of_bits, is_nan}
use lib.Ieee.Bits.{nan_bits_is}
use borrow.Author.Tests.{not-true}
use Rattle.columnar.specs.Row.{Row, null, whole, single, double, bytes, list, union}
use Rattle.array_data.proofs.lent_tables.Laws.{and_left, and_right}
use Rattle.frames.specs.float_order.Order.{first_by}
use Rattle.frames.proofs.float_order.Weak.{Weak, lt_weak, above_weak, asym, not_under, first_assoc, first_number}
use Rattle.frames.specs.declared.Frame.{Frame}
use Rattle.frames.specs.Frames.{joined, Stop, is_number, float_of, counts, frame_of, widened, widened_by, framed, together}
use Rattle.frames.specs.Sides.{Side, least_latitude, most_latitude, least_longitude, most_longitude, side_of, outside, row_of, value_of, EachCounted, FirstMet}

-- ---- sides

pub weak : (d : Side) → Weak (outside d)
weak least_latitude = lt_weak
weak most_latitude = above_weak
weak least_longitude = lt_weak
weak most_longitude = above_weak

pub joined_side : (d : Side) (f g : Frame) → side_of d (joined f g) ≡ first_by (outside d) (side_of d f) (side_of d g)
unfolding joined
joined_side least_latitude f g = refl
joined_side most_latitude f g = refl
joined_side least_longitude f g = refl
joined_side most_longitude f g = refl

pub stop_side : (d : Side) (s : Stop) → side_of d (frame_of s) ≡ value_of d s
stop_side least_latitude s = refl
stop_side most_latitude s = refl
stop_side least_longitude s = refl
stop_side most_longitude s = refl

made : Float → Float → Float → Float → Frame
made a b c e = record { south = a; north = b; west = c; east = e }

-- frames with the same sides are the same
pub same_sides : (f g : Frame) → ((d : Side) → side_of d f ≡ side_of d g) → f ≡ g
unfolding made
same_sides f g h =
    ap (λ a. made a f.north f.west f.east) (h least_latitude)
    ∙ ap (λ a. made g.south a f.west f.east) (h most_latitude)
    ∙ ap (λ a. made g.south g.north a f.east) (h least_longitude)
    ∙ ap (λ a. made g.south g.north g.west a) (h most_longitude)

-- ---- numbers

-- every side is a number
abbrev pub Numbers : Frame → Type 0
Numbers f = (d : Side) → is_nan (side_of d f) ≡ false

float_number : (r : Row) → is_number r ≡ true → is_nan (float_of r) ≡ false
float_number null h = absurd (true≢false (sym h))
float_number (whole z) h = absurd (true≢false (sym h))
float_number (single p) h = absurd (true≢false (sym h))
float_number (double p) h = sym (nan_bits_is binary64 p) ∙ not-true (nan_bits binary64 p) h
float_number (bytes s) h = absurd (true≢false (sym h))
float_number (list rs) h = absurd (true≢false (sym h))
float_number (union i r) h = absurd (true≢false (sym h))

pub stop_numbers : (s : Stop) → counts s ≡ true → Numbers (frame_of s)
stop_numbers s h least_latitude = float_number s.latitude (and_left (is_number s.latitude) (is_number s.longitude) h)
stop_numbers s h most_latitude = float_number s.latitude (and_left (is_number s.latitude) (is_number s.longitude) h)
stop_numbers s h least_longitude = float_number s.longitude (and_right (is_number s.latitude) (is_number s.longitude) h)
stop_numbers s h most_longitude = float_number s.longitude (and_right (is_number s.latitude) (is_number s.longitude) h)

joined_numbers : (f g : Frame) → Numbers f → Numbers g → Numbers (joined f g)
joined_numbers f g h k d =
    subst (λ v. is_nan v ≡ false) (sym (joined_side d f g)) (first_number (outside d) (side_of d f) (side_of d g) (h d) (k d))

-- ---- however three frames are taken together

pub joined_assoc : (f g h : Frame) → Numbers g → joined (joined f g) h ≡ joined f (joined g h)
joined_assoc f g h k = same_sides (joined (joined f g) h) (joined f (joined g h)) side
  where
    side : (d : Side) → side_of d (joined (joined f g) h) ≡ side_of d (joined f (joined g h))
    side d =
        joined_side d (joined f g) h
        ∙ ap (λ v. first_by (outside d) v (side_of d h)) (joined_side d f g)
        ∙ first_assoc (outside d) (weak d) (side_of d f) (side_of d g) (side_of d h) (k d)
        ∙ ap (first_by (outside d) (side_of d f)) (sym (joined_side d g h))
        ∙ sym (joined_side d f (joined g h))

-- ---- widening row by row, or by the rows' frame

widened_numbers : (f : Frame) (s : Stop) → Numbers f → Numbers (widened f s)
widened_numbers f s h = go (counts s) refl
  where
    go : (b : Bool) → counts s ≡ b → Numbers (cond b (joined f (frame_of s)) f)
    go true e = joined_numbers f (frame_of s) h (stop_numbers s e)
    go false e = h

pub widened_by_numbers : (f : Frame) (ss : List Stop) → Numbers f → Numbers (widened_by f ss)
widened_by_numbers f [] h = h
widened_by_numbers f (s ∷ ss) h = widened_by_numbers (widened f s) ss (widened_numbers f s h)

widened_joined : (f g : Frame) (s : Stop) → Numbers g → widened (joined f g) s ≡ joined f (widened g s)
widened_joined f g s h = go (counts s)
  where
    go : (b : Bool) → cond b (joined (joined f g) (frame_of s)) (joined f g) ≡ joined f (cond b (joined g (frame_of s)) g)
    go true = joined_assoc f g (frame_of s) h
    go false = refl

by_joined : (f g : Frame) (ss : List Stop) → Numbers g → widened_by (joined f g) ss ≡ joined f (widened_by g ss)
by_joined f g [] h = refl
by_joined f g (s ∷ ss) h = ap (λ z. widened_by z ss) (widened_joined f g s h) ∙ by_joined f (widened g s) ss (widened_numbers g s h)

pub by_together : (f : Frame) (ss : List Stop) → some (widened_by f ss) ≡ together (some f) (framed ss)
by_together f [] = refl
by_together f (s ∷ ss) = go (counts s) refl (by_together f ss)
  where
    go : (b : Bool) → counts s ≡ b → some (widened_by f ss) ≡ together (some f) (framed ss)
        → some (widened_by (cond b (joined f (frame_of s)) f) ss) ≡ together (some f) (cond b (some (widened_by (frame_of s) ss)) (framed ss))
    go true e ih = ap some (by_joined f (frame_of s) ss (stop_numbers s e))
    go false e ih = ih

pub by_append : (f : Frame) (us vs : List Stop) → widened_by f (us ++ vs) ≡ widened_by (widened_by f us) vs
by_append f [] vs = refl
by_append f (u ∷ us) vs = by_append (widened f u) us vs

-- THE FRAME OF TWO LISTS OF ROWS IS JOINED FROM THE FRAMES OF BOTH, the left one first
pub frames_joined : (us vs : List Stop) → framed (us ++ vs) ≡ together (framed us) (framed vs)
frames_joined [] vs = refl
frames_joined (u ∷ us) vs = go (counts u) (frames_joined us vs)
  where
    go : (b : Bool) → framed (us ++ vs) ≡ together (framed us) (framed vs)
        → cond b (some (widened_by (frame_of u) (us ++ vs))) (framed (us ++ vs)) ≡ together (cond b (some (widened_by (frame_of u) us)) (framed us)) (framed vs)
    go true ih = ap some (by_append (frame_of u) us vs) ∙ by_together (widened_by (frame_of u) us) vs
    go false ih = ih

-- A ROW THAT DOES NOT COUNT CHANGES NOTHING
pub not_counted : (us : List Stop) (s : Stop) (vs : List Stop) → counts s ≡ false → framed (us ++ (s ∷ vs)) ≡ framed (us ++ vs)
not_counted us s vs h =
    frames_joined us (s ∷ vs)
    ∙ ap (λ b. together (framed us) (cond b (some (widened_by (frame_of s) vs)) (framed vs))) h
    ∙ sym (frames_joined us vs)

-- a first row that counts, by the frame of those behind it
pub cons_counted : (u : Stop) (us : List Stop) → counts u ≡ true → framed (u ∷ us) ≡ together (some (frame_of u)) (framed us)
cons_counted u us e = ap (λ b. cond b (some (widened_by (frame_of u) us)) (framed us)) e ∙ by_together (frame_of u) us

pub cons_passed : (u : Stop) (us : List Stop) → counts u ≡ false → framed (u ∷ us) ≡ framed us
cons_passed u us e = ap (λ b. cond b (some (widened_by (frame_of u) us)) (framed us)) e
