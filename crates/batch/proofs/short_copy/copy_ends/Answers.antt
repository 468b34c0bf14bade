-- `batch::short_copy::copy_ends` meets its contract. Assumes nothing.
use native.Mathlib.Omega.{arith}
use Rattle.batch.proofs.batch_walk.Overlaps.{ends_are}
use Rattle.batch.proofs.short_copy.copy_ends.Goals as goal

pub returns : goal.returns
returns c = let a = c.args in ends_are a.room.now a.body.now a.at a.from a.n a.w (omega arith) (omega arith) (omega arith) (omega arith) c.copy_word.ensures c.copy_word-2.ensures
