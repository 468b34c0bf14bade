-- The four sides of a frame, each with its comparison and its column: what the theorems say of every side. Assumes nothing.
use Rattle.std.specs.Prelude.{◌≡◌, Bool, true, false, ℕ, ◌≤◌, ◌<◌, ◌^◌, Float}
use mathlib.Core.List.{List, [], ◌∷◌, ◌++◌, Memᴰ}
use Rattle.std.specs.Float.{binary64}
use Rattle.std.specs.Float.Ieee.{to_bits, lt}
use Rattle.columnar.specs.Row.{Row, double}
use Rattle.frames.specs.float_order.Order.{above}
use Rattle.frames.specs.declared.Frame.{Frame}
use Rattle.frames.specs.Frames.{Stop, float_of, counts}

pub data Side : Type 0 where
  least_latitude : Side
  most_latitude : Side
  least_longitude : Side
  most_longitude : Side

abbrev pub side_of : Side → Frame → Float
side_of least_latitude f = f.south
side_of most_latitude f = f.north
side_of least_longitude f = f.west
side_of most_longitude f = f.east

-- x lies outside of the side y
abbrev pub outside : Side → Float → Float → Bool
outside least_latitude x y = lt x y
outside most_latitude x y = above x y
outside least_longitude x y = lt x y
outside most_longitude x y = above x y

abbrev pub row_of : Side → Stop → Row
row_of least_latitude s = s.latitude
row_of most_latitude s = s.latitude
row_of least_longitude s = s.longitude
row_of most_longitude s = s.longitude

abbrev pub value_of : Side → Stop → Float
value_of d s = float_of (row_of d s)

-- every counted row has P
abbrev pub EachCounted : (Stop → Type 0) → List Stop → Type 0
EachCounted P [] = Unit {0}
EachCounted P (s ∷ ss) = (counts s ≡ true → P s) × EachCounted P ss

-- v has the bits of a counted row, so that -0.0 and 0.0 are told apart
pub record FromRow (d : Side) (v : Float) (stops : List Stop) : Type 0 where
  pub stop : Stop
  pub among : Memᴰ stop stops
  pub counted : counts stop ≡ true
  pub bits : ℕ
  pub its_row : row_of d stop ≡ double bits
  pub its_bits : bits < 2 ^ 64 → to_bits binary64 v ≡ bits

-- v is the value of a counted row, and of no counted row before it: every earlier value is inside of v
pub record FirstMet (d : Side) (v : Float) (stops : List Stop) : Type 0 where
  pub before : List Stop
  pub stop : Stop
  pub after : List Stop
  pub among : stops ≡ before ++ (stop ∷ after)
  pub counted : counts stop ≡ true
  pub its_value : v ≡ value_of d stop
  pub earlier : EachCounted (λ s. outside d v (value_of d s) ≡ true) before

-- row i of start .. end - 1, which counts and whose bits on this side v has
pub record AtRow (d : Side) (v : Float) (g : ℕ → Stop) (start end : ℕ) : Type 0 where
  pub row : ℕ
  pub from : start ≤ row
  pub to : row < end
  pub counted : counts (g row) ≡ true
  pub its_bits : row_of d (g row) ≡ double (to_bits binary64 v)
