-- `kinds::children_reach` meets its contract: the ids from here on decide what all do. Assumes nothing.
use native.Mathlib.Omega.{arith}
use Rattle.source_rules.proofs.kinds.Laws.{reach_start, reach_end, reach_fail, reach_pass}
use Rattle.source_rules.proofs.kinds.children_reach.Goals as goal

pub loop-id-init : goal.loop-id-init
loop-id-init c = reach_start c.args.ids.now c.args.lens.now c.args.count

pub returns-then-at_u64-count : goal.returns-then-at_u64-count
returns-then-at_u64-count c =
    let a = c.args in
    reach_fail a.ids.now a.lens.now a.count c.loop-id.id-index (omega arith) c.loop-id.invariant c.field_of.ensures c.at_u64.ensures (omega arith)

pub loop-id-preserved : goal.loop-id-preserved
loop-id-preserved c =
    let a = c.args in
    reach_pass a.ids.now a.lens.now a.count c.loop-id.id-index (omega arith) c.loop-id.invariant c.field_of.ensures c.at_u64.ensures (omega arith)

pub returns : goal.returns
returns c = reach_end c.args.ids.now c.args.lens.now c.args.count {i = c.loop-id.id-index} (omega arith) c.loop-id.invariant
