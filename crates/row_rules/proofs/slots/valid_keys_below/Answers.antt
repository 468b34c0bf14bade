-- `slots::valid_keys_below` meets its contract: the valid keys before i are below bound. Assumes nothing.
use Rattle.std.proofs.Common.{arith}
use Rattle.row_rules.proofs.slots.Laws.{valid_keys_fail}
use Rattle.row_rules.proofs.slots.valid_keys_below.Goals as goal

pub returns-then-get_bit-eq1 : goal.returns-then-get_bit-eq1
returns-then-get_bit-eq1 g c =
    let z = c.args in
    let r = rw c.SIZE.ensures at c.read.ensures in
    valid_keys_fail g.N.Unsigned.SIZE z.body.now z.at z.bound z.from z.a c.loop-i.i z.n (omega arith) (omega arith) (omega (arith, r))
