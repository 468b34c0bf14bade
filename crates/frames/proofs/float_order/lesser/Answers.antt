-- `float_order::lesser` meets its contract. Assumes nothing.
use Rattle.frames.proofs.float_order.lesser.Goals as goal

pub returns-then-b-a : goal.returns-then-b-a
returns-then-b-a c = simp c.if-b-a.true

pub returns-else-b-a : goal.returns-else-b-a
returns-else-b-a c = simp c.if-b-a.false
