-- `batch_walk::rise::end_behind` meets its contract. Assumes nothing.
use Rattle.batch.proofs.batch_walk.Rises.{end_none, end_before, end_behind_lem}
use Rattle.batch.proofs.rise.end_behind.Goals as goal

pub returns-then-not-has_part : goal.returns-then-not-has_part
returns-then-not-has_part c = let a = c.args in end_none a.plan.now a.parts.now a.i a.b a.end c.has_part.ensures c.if-not-has_part.true-raw

pub returns-then-start-end : goal.returns-then-start-end
returns-then-start-end c = let a = c.args in end_before a.plan.now a.parts.now a.i a.b a.end c.has_part.ensures c.if-not-has_part.false-raw (rw c.number_of-p.ensures.value at c.at_u64-start.ensures) c.if-start-end.true

pub returns : goal.returns
returns c = let a = c.args in end_behind_lem a.plan.now a.parts.now a.i a.b a.end c.has_part.ensures c.if-not-has_part.false-raw (rw c.number_of-p.ensures.value at c.at_u64-start.ensures) c.if-start-end.false (rw c.number_of-p.ensures.value at c.at_u64.ensures) c.grow.ensures
