-- `reclaim_walk::entries::copy_run` meets its contract. Assumes nothing.
use Rattle.leaf_walk.specs.Join.{join}
use Rattle.reclaim.proofs.reclaim_walk.Laws.{copy_some, copy_none}
use Rattle.reclaim.proofs.entry_copies.copy_run.Goals as goal

pub returns-then-k-eq0 : goal.returns-then-k-eq0
returns-then-k-eq0 c =
    let a = c.args in
    copy_none (join a.plan.now a.parts.now a.lengths.now a.places.now a.body.now a.first 0) a.e a.k a.counters.now c.if-k-eq0.true

pub returns : goal.returns
returns c =
    let a = c.args in
    copy_some (join a.plan.now a.parts.now a.lengths.now a.places.now a.body.now a.first 0) a.e a.k a.counters.now c.if-k-eq0.false c.extend.ensures
