-- `batch::batch_walk::is_listed` meets its contract. Assumes nothing.
use native.Mathlib.Omega.{arith}
use Rattle.batch.proofs.batch_walk.Nested.{chain_end, chain_no, chain_yes, chain_more}
use Rattle.batch.proofs.batch_walk.is_listed.Goals as goal

pub returns-then-not-is_nested : goal.returns-then-not-is_nested
returns-then-not-is_nested c = chain_no c.args.plan.now c.loop-k.k (omega arith) c.loop-k.invariant c.is_nested.ensures c.if-not-is_nested.true-raw

pub returns-then-is_flat : goal.returns-then-is_flat
returns-then-is_flat c = chain_yes c.args.plan.now c.loop-k.k (omega arith) c.loop-k.invariant c.is_nested.ensures c.if-not-is_nested.false-raw c.is_flat.ensures c.if-is_flat.true

pub loop-k-preserved : goal.loop-k-preserved
loop-k-preserved c = chain_more c.args.plan.now c.loop-k.k (omega arith) c.loop-k.invariant c.is_nested.ensures c.if-not-is_nested.false-raw c.is_flat.ensures c.if-is_flat.false

pub returns : goal.returns
returns c = chain_end c.args.plan.now c.loop-k.k (omega arith) c.loop-k.invariant
