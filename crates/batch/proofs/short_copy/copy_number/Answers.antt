-- `batch::short_copy::copy_number` meets its contract. Assumes nothing.
use native.Mathlib.Omega.{arith}
use Rattle.batch.proofs.batch_walk.Sums.{word_is}
use Rattle.batch.proofs.short_copy.copy_number.Goals as goal

pub returns : goal.returns
returns g c = let a = c.args in word_is g.N.Unsigned.SIZE a.room.now a.body.now a.at a.from (omega arith) (λ i. (c.shared_slice_known-1.given i).fits) c.read.ensures c.write.ensures
