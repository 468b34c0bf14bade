-- `slots::keys_below` meets its contract: good says of the keys before i whether they are below bound. Assumes nothing.
use Rattle.std.proofs.Common.{arith}
use Rattle.row_rules.proofs.Sizes.{past}
use Rattle.row_rules.proofs.slots.Laws.{keys_all}
use Rattle.row_rules.proofs.slots.keys_below.Goals as goal

pub returns-then-to_u64-bound : goal.returns-then-to_u64-bound
returns-then-to_u64-bound g c =
    let z = c.args in
    let w = g.N.Unsigned.SIZE in
    keys_all w z.body.now z.at z.bound (λ j. (c.type_inv.body j).fits) (past c.truncate.ensures (omega arith)) z.n
