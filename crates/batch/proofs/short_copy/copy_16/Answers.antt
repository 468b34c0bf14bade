-- `batch::short_copy::copy_16` meets its contract. Assumes nothing.
use native.Mathlib.Omega.{arith}
use Rattle.batch.proofs.batch_walk.Overlaps.{pair_is}
use Rattle.batch.proofs.short_copy.copy_16.Goals as goal

pub returns : goal.returns
returns c = let a = c.args in pair_is a.room.now a.body.now a.at a.from 8 (omega arith) (omega arith) c.copy_number.ensures c.copy_number-2.ensures
