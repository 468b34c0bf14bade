-- `slots::declared` meets its contract: the ids so far stand in the table. Assumes nothing.
use Rattle.std.proofs.Common.{arith}
use Rattle.row_rules.proofs.slots.Tables.{flags_none, flags_set, flags_all}
use Rattle.row_rules.proofs.slots.declared.Goals as goal

pub loop-id-init : goal.loop-id-init
loop-id-init c = flags_none c.args.ids.now

pub loop-id-preserved : goal.loop-id-preserved
loop-id-preserved c = flags_set c.args.ids.now c.loop-id.id-index (omega arith) (c.type_inv.ids c.loop-id.id-index).fits c.loop-id.invariant

pub returns : goal.returns
returns c = flags_all c.args.ids.now c.loop-id.id-index (omega arith) c.loop-id.invariant
