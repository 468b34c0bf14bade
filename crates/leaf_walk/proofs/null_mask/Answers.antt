-- `leaf_walk::null_mask` meets its contract. Assumes nothing.
use Rattle.leaf_walk.specs.Join.{join}
use Rattle.leaf_walk.proofs.Laws.{nulls_off, nulls_on}
use Rattle.leaf_walk.proofs.null_mask.Goals as goal

pub returns-then-keeps_of-eq0 : goal.returns-then-keeps_of-eq0
returns-then-keeps_of-eq0 c =
    let a = c.args in
    λ lengths places body first source. nulls_off (join a.plan.now a.parts.now lengths places body first source) a.i a.write a.counters.now a.room.now a.n c.keeps_of.ensures c.if-keeps_of-eq0.true

pub returns : goal.returns
returns c =
    let a = c.args in
    λ lengths places body first source. nulls_on (join a.plan.now a.parts.now lengths places body first source) a.i a.write a.counters.now a.room.now a.n c.keeps_of.ensures c.if-keeps_of-eq0.false c.rows_of-p.ensures c.put_null_bits.ensures c.add_nulls.ensures
