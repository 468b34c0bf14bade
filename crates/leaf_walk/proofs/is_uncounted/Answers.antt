-- `leaf_walk::is_uncounted` meets its contract. Assumes nothing.
use Rattle.leaf_walk.proofs.is_uncounted.Goals as goal

pub returns : goal.returns
returns c = rw c.if-write.false
