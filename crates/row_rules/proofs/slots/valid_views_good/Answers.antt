-- `slots::valid_views_good` meets its contract: the valid views before i are good. Assumes nothing.
use Rattle.std.proofs.Common.{arith}
use Rattle.row_rules.proofs.slots.Views.{valid_views_fail}
use Rattle.row_rules.proofs.slots.valid_views_good.Goals as goal

pub returns-then-not-view_good : goal.returns-then-not-view_good
returns-then-not-view_good c =
    let z = c.args in
    valid_views_fail z.body.now z.at z.buffers.now z.first z.count z.from z.a c.loop-i.i z.n (omega arith) (omega arith) c.from_bytes-view.ensures c.view_good.ensures c.if-not-view_good.true
