-- `frames::join_frames` meets its contract. Assumes nothing.
use Rattle.frames.specs.Frames.{joined}
use Rattle.frames.proofs.join_frames.Goals as goal

pub returns : goal.returns
unfolding joined
returns c = rw (c.lesser-south.ensures, c.greater-north.ensures, c.lesser-west.ensures, c.greater-east.ensures)
