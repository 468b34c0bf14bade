-- `slots::views_good` meets its contract: the views before i are good. Assumes nothing.
use Rattle.std.proofs.Common.{arith}
use Rattle.row_rules.proofs.slots.Views.{views_fail}
use Rattle.row_rules.proofs.slots.views_good.Goals as goal

pub returns-then-not-view_good : goal.returns-then-not-view_good
returns-then-not-view_good c =
    let z = c.args in
    views_fail z.body.now z.at z.buffers.now z.first z.count c.loop-i.i z.n (omega arith) c.from_bytes-v.ensures c.view_good.ensures c.if-not-view_good.true
