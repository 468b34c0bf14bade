-- `transform::run_nulls::count_nulls` meets its contract. Assumes nothing.
use mathlib.Core.Bool.{true}
use mathlib.Core.List.{[]}
use Rattle.leaf_walk.specs.Join.{join}
use Rattle.leaf_walk.proofs.Laws.{count_off, count_on}
use Rattle.transform.proofs.run_nulls.count_nulls.Goals as goal

pub returns-then-keeps_of-ne0 : goal.returns-then-keeps_of-ne0
returns-then-keeps_of-ne0 c =
    let a = c.args in
    λ parts room. count_on (join a.plan.now parts [] [] [] 0 0) 0 true a.counters.now room a.n c.keeps_of.ensures c.if-keeps_of-ne0.true c.add_to.ensures

pub returns-else-keeps_of-ne0 : goal.returns-else-keeps_of-ne0
returns-else-keeps_of-ne0 c =
    let a = c.args in
    λ parts room. count_off (join a.plan.now parts [] [] [] 0 0) 0 true a.counters.now room a.n c.keeps_of.ensures c.if-keeps_of-ne0.false
