-- `frames::frame_at` meets its contract. Assumes nothing.
use mathlib.Core.Path.{ap₂}
use Rattle.frames.specs.Frames.{around}
use Rattle.frames.proofs.frame_at.Goals as goal

pub returns : goal.returns
returns c = ap₂ around c.float_at-latitude.ensures c.float_at-longitude.ensures
