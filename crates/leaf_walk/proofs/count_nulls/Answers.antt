-- `leaf_walk::count_nulls` meets its contract. Assumes nothing.
use Rattle.leaf_walk.specs.Join.{join}
use Rattle.leaf_walk.proofs.Laws.{count_off, count_on}
use Rattle.leaf_walk.proofs.count_nulls.Goals as goal

pub returns-then-keeps_of-eq0 : goal.returns-then-keeps_of-eq0
returns-then-keeps_of-eq0 c =
    let a = c.args in
    λ parts lengths places body room first source write. count_off (join a.plan.now parts lengths places body first source) a.i write a.counters.now room a.n c.keeps_of.ensures c.if-keeps_of-eq0.true

pub returns : goal.returns
returns c =
    let a = c.args in
    λ parts lengths places body room first source write. count_on (join a.plan.now parts lengths places body first source) a.i write a.counters.now room a.n c.keeps_of.ensures c.if-keeps_of-eq0.false c.add_nulls.ensures
