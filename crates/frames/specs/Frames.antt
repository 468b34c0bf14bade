-- The frame of rows of a latitude and a longitude column (02, W11). Assumes nothing.
use Rattle.std.specs.Prelude.{Bool, false, not, cond, ◌&&◌, List, [], ◌∷◌, Float}
use Rattle.std.proofs.Math.Option.{Option, none, some}
use Rattle.std.specs.Float.{nan, binary64}
use Rattle.std.specs.Float.Ieee.{of_bits, nan_bits}
use Rattle.columnar.specs.Row.{Row, null, whole, single, double, bytes, list, union}
use Rattle.frames.specs.float_order.Order.{lesser_of, greater_of}
use Rattle.frames.specs.declared.Frame.{Frame}

-- the frame of one place
abbrev pub around : Float → Float → Frame
around latitude longitude = record { south = latitude; north = latitude; west = longitude; east = longitude }

-- "joined .. with the same rule, left range first"
unfoldable pub joined : Frame → Frame → Frame
joined a b =
    record {
      south = lesser_of a.south b.south;
      north = greater_of a.north b.north;
      west = lesser_of a.west b.west;
      east = greater_of a.east b.east;
    }

-- ---- rows

-- a row of both columns
pub record Stop : Type 0 where
  pub latitude : Row
  pub longitude : Row

-- neither null nor a NaN of any payload
abbrev pub is_number : Row → Bool
is_number null = false
is_number (whole z) = false
is_number (single p) = false
is_number (double p) = not (nan_bits binary64 p)
is_number (bytes s) = false
is_number (list rs) = false
is_number (union i r) = false

-- the float of its bits
abbrev pub float_of : Row → Float
float_of null = nan
float_of (whole z) = nan
float_of (single p) = nan
float_of (double p) = of_bits binary64 p
float_of (bytes s) = nan
float_of (list rs) = nan
float_of (union i r) = nan

-- "Rows where either is null or not a number don't count."
abbrev pub counts : Stop → Bool
counts s = is_number s.latitude && is_number s.longitude

abbrev pub frame_of : Stop → Frame
frame_of s = around (float_of s.latitude) (float_of s.longitude)

-- ---- lists of rows

-- a frame and one row more
abbrev pub widened : Frame → Stop → Frame
widened f s = cond (counts s) (joined f (frame_of s)) f

abbrev pub widened_by : Frame → List Stop → Frame
widened_by f [] = f
widened_by f (s ∷ ss) = widened_by (widened f s) ss

-- THE FRAME OF ROWS: that of the first counted one, widened by the rows behind it in turn; none where no row counts
abbrev pub framed : List Stop → Option Frame
framed [] = none
framed (s ∷ ss) = cond (counts s) (some (widened_by (frame_of s) ss)) (framed ss)

-- "A frame of two ranges can be joined from the two frames": the other one's where one has no counted row
abbrev pub together : Option Frame → Option Frame → Option Frame
together none g = g
together (some f) none = some f
together (some f) (some g) = some (joined f g)
