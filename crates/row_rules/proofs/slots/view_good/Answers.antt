-- `slots::view_good` meets its contract. Assumes nothing.
use Rattle.std.proofs.Common.{arith}
use Rattle.row_rules.proofs.slots.Views.{view_negative, view_inline, view_unknown, view_lies}
use Rattle.row_rules.proofs.slots.view_good.Goals as goal

pub returns-then-length-gt2147483647 : goal.returns-then-length-gt2147483647
returns-then-length-gt2147483647 c =
    let z = c.args in
    view_negative z.body.now z.buffers.now z.first z.count z.v (omega arith)

pub returns-then-length-le-MAX_INLINE_VIEW_LEN : goal.returns-then-length-le-MAX_INLINE_VIEW_LEN
returns-then-length-le-MAX_INLINE_VIEW_LEN c =
    let z = c.args in
    view_inline z.body.now z.buffers.now z.first z.count z.v (omega arith)

pub returns-then-count-k : goal.returns-then-count-k
returns-then-count-k c =
    let z = c.args in
    view_unknown z.body.now z.buffers.now z.first z.count z.v (omega arith) (omega arith) (omega arith)

pub returns : goal.returns
returns c =
    let z = c.args in
    view_lies z.body.now z.buffers.now z.first z.count z.v (omega arith) (omega arith) (omega arith) c.lies_in.ensures
