-- `batch_walk::flat_below` meets its contract. Assumes nothing.
use native.Mathlib.Omega.{arith}
use Rattle.batch.proofs.batch_walk.Node.{below_none, below_more, below_no, below_all}
use Rattle.batch.proofs.batch_walk.flat_below.Goals as goal

pub returns-then-not-is_flat : goal.returns-then-not-is_flat
returns-then-not-is_flat c = below_no c.args.plan.now c.loop-k.k c.loop-k.auto.k c.end_of-end.ensures.value (omega arith) c.is_flat.ensures c.if-not-is_flat.true-raw
