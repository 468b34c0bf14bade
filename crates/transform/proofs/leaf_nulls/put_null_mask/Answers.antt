-- `transform::leaf_nulls::put_null_mask` meets its contract. Assumes nothing.
use mathlib.Core.Bool.{true}
use mathlib.Core.List.{[]}
use Rattle.leaf_walk.specs.Join.{join}
use Rattle.leaf_walk.proofs.Laws.{nulls_off, nulls_on}
use Rattle.transform.proofs.leaf_nulls.put_null_mask.Goals as goal

pub returns-then-keeps_of-eq0 : goal.returns-then-keeps_of-eq0
returns-then-keeps_of-eq0 c =
    let a = c.args in
    nulls_off (join a.plan.now a.parts.now [] [] [] 0 0) a.i true a.counters.now a.room.now a.n c.keeps_of.ensures c.if-keeps_of-eq0.true

pub returns : goal.returns
returns c =
    let a = c.args in
    nulls_on (join a.plan.now a.parts.now [] [] [] 0 0) a.i true a.counters.now a.room.now a.n c.keeps_of.ensures c.if-keeps_of-eq0.false c.at_u64-rows.ensures c.put_null_bits.ensures c.add_to.ensures
