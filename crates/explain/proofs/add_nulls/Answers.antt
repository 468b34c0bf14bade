-- `explain::add_nulls` meets its contract. Assumes nothing.
use mathlib.Core.Path.{ap, ◌∙◌}
use mathlib.Core.List.{[]}
use Rattle.leaf_walk.specs.Join.{join}
use Rattle.transform.specs.Answer.{lent}
use Rattle.explain.specs.stops.Nulls.{why_nulls}
use Rattle.explain.proofs.stops.NullOrders.{nulls_say}
use Rattle.explain.proofs.Laws.{stopped, kept, settled}
use Rattle.explain.proofs.add_nulls.Goals as goal

pub returns-then-g-ne0 : goal.returns-then-g-ne0
returns-then-g-ne0 c =
    let a = c.args in
    λ sources lengths places body. let q = kept (lent a.plan.now a.parts.now sources lengths places body) a.m a.n (nulls_say (join a.plan.now a.parts.now [] [] [] 0 0) 8 0 a.n a.counters.now) c.try_nulls-g.ensures c.if-g-ne0.true in stopped (lent a.plan.now a.parts.now sources lengths places body) a.m a.n (nulls_say (join a.plan.now a.parts.now [] [] [] 0 0) 8 0 a.n a.counters.now) c.try_nulls-g.ensures c.if-g-ne0.true q (c.why_null_walk.ensures ∙ ap (why_nulls (join a.plan.now a.parts.now [] [] [] 0 0) 8 0 a.n) q)

pub returns : goal.returns
returns c =
    let a = c.args in
    λ sources lengths places body. settled (lent a.plan.now a.parts.now sources lengths places body) a.m a.n (nulls_say (join a.plan.now a.parts.now [] [] [] 0 0) 8 0 a.n a.counters.now) c.try_nulls-g.ensures c.if-g-ne0.false c.rows_of-r.ensures c.settle.ensures
