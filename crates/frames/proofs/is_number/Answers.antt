-- `frames::is_number` meets its contract. Assumes nothing.
use Rattle.frames.proofs.Slots.{number_test}
use Rattle.frames.proofs.is_number.Goals as goal

pub returns : goal.returns
returns c = number_test _
