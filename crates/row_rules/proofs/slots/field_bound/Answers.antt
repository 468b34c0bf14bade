-- `slots::field_bound` meets its contract. Assumes nothing.
use Rattle.std.proofs.Common.{arith}
use lib.ListN.{get_or-eq_default}
use Rattle.row_rules.proofs.slots.field_bound.Goals as goal

pub returns-then-lens-f : goal.returns-then-lens-f
returns-then-lens-f c = let z = c.args in omega (arith, get_or-eq_default z.lens.now 0 c.if-lens-f.true)
