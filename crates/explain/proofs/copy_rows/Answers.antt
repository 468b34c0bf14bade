-- `explain::copy_rows` meets its contract. Assumes nothing.
use mathlib.Core.Path.{ap, ◌∙◌}
use Rattle.leaf_walk.specs.Join.{join}
use Rattle.transform.specs.Answer.{lent}
use Rattle.explain.specs.stops.Copy.{why_copy}
use Rattle.explain.proofs.stops.Copies.{copy_says}
use Rattle.explain.proofs.Laws.{stopped, kept, settled}
use Rattle.explain.proofs.copy_rows.Goals as goal

pub returns-then-g-ne0 : goal.returns-then-g-ne0
returns-then-g-ne0 c =
    let a = c.args in
    λ sources. let q = kept (lent a.plan.now a.parts.now sources a.lengths.now a.places.now a.body.now) a.m a.n (copy_says (join a.plan.now a.parts.now a.lengths.now a.places.now a.body.now a.first a.source) 8 0 a.start a.n a.counters.now) c.try_copy-g.ensures c.if-g-ne0.true in stopped (lent a.plan.now a.parts.now sources a.lengths.now a.places.now a.body.now) a.m a.n (copy_says (join a.plan.now a.parts.now a.lengths.now a.places.now a.body.now a.first a.source) 8 0 a.start a.n a.counters.now) c.try_copy-g.ensures c.if-g-ne0.true q (c.why_walk.ensures ∙ ap (why_copy (join a.plan.now a.parts.now a.lengths.now a.places.now a.body.now a.first a.source) 8 0 a.start a.n) q)

pub returns : goal.returns
returns c =
    let a = c.args in
    λ sources. settled (lent a.plan.now a.parts.now sources a.lengths.now a.places.now a.body.now) a.m a.n (copy_says (join a.plan.now a.parts.now a.lengths.now a.places.now a.body.now a.first a.source) 8 0 a.start a.n a.counters.now) c.try_copy-g.ensures c.if-g-ne0.false c.rows_of-r.ensures c.settle.ensures
