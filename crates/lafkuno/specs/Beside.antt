-- What the calls beside the join answer. Assumes nothing.
use Rattle.std.specs.Prelude.{Bool, cond, ◌&&◌, List, [], ◌∷◌, ℕ, length, get_or, eqb, Float}
use Rattle.std.specs.Float.{nan}
use Rattle.frames.specs.declared.Frame.{Frame}
use Rattle.frames.specs.Frames.{joined}
use Rattle.std.specs.Prelude.{Result, Ok, Err}

-- ---- frames as four floats

abbrev pub sides : Frame → List Float
sides f = f.south ∷ f.north ∷ f.west ∷ f.east ∷ []

abbrev pub frame_of : List Float → Frame
frame_of s = record { south = get_or s 0 nan; north = get_or s 1 nan; west = get_or s 2 nan; east = get_or s 3 nan }

-- room for a frame, or a frame: 14 where it has not four floats
abbrev pub four : List Float → Bool
four s = eqb (length s) 4

-- the sides of a frame that is answered; what stood there before where it is refused
abbrev pub sides_or : Result Frame ℕ → List Float → List Float
sides_or (Ok f) s = sides f
sides_or (Err g) s = s

-- the ground, then 14 where there is not room for a frame
unfoldable pub frame_ground : Result Frame ℕ → List Float → ℕ
frame_ground (Ok f) s = cond (four s) 0 14
frame_ground (Err g) s = g

unfoldable pub frame_after : Result Frame ℕ → List Float → List Float
frame_after box s = cond (four s) (sides_or box s) s

unfoldable pub join_ground : List Float → List Float → List Float → ℕ
join_ground left right s = cond (four left && four right && four s) 0 14

unfoldable pub join_after : List Float → List Float → List Float → List Float
join_after left right s = cond (four left && four right && four s) (sides (joined (frame_of left) (frame_of right))) s
