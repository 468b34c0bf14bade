-- `slots::bounds` meets its contract: the ids from number i on stand in the table. Assumes nothing.
use Rattle.std.proofs.Common.{◌-◌, arith}
use Rattle.row_rules.proofs.slots.Tables.{bounds_none, bounds_set, bounds_all}
use Rattle.row_rules.proofs.slots.bounds.Goals as goal

pub loop-i-init : goal.loop-i-init
loop-i-init c = bounds_none c.args.ids.now c.args.lens.now

pub loop-i-preserved : goal.loop-i-preserved
loop-i-preserved c =
    let z = c.args in
    let l = c.loop-i in
    bounds_set z.ids.now z.lens.now l.i (l.i - 1) c.field_bound.result (omega arith) (omega arith) (c.type_inv.ids (l.i - 1)).fits c.field_bound.ensures l.invariant

pub returns : goal.returns
returns c = bounds_all c.args.ids.now c.args.lens.now c.loop-i.i (omega arith) c.loop-i.invariant
