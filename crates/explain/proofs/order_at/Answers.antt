-- `explain::order_at` meets its contract. Assumes nothing.
use Rattle.transform.specs.Answer.{lent}
use Rattle.explain.proofs.Laws.{words_nulls, words_copy}
use Rattle.explain.proofs.order_at.Goals as goal

pub returns-then-kind-ne-COPY : goal.returns-then-kind-ne-COPY
returns-then-kind-ne-COPY c =
    let a = c.args in
    let x = lent a.plan.now a.parts.now a.sources.now a.lengths.now a.places.now a.body.now in
    words_nulls x a.m a.orders.now a.k c.at_u64-kind.ensures c.at_u64-a.ensures c.if-kind-ne-COPY.true (c.order_nulls.ensures a.sources.now a.lengths.now a.places.now a.body.now)

pub returns : goal.returns
returns c =
    let a = c.args in
    let x = lent a.plan.now a.parts.now a.sources.now a.lengths.now a.places.now a.body.now in
    words_copy x a.m a.orders.now a.k c.at_u64-kind.ensures c.at_u64-a.ensures c.if-kind-ne-COPY.false c.source_of.ensures c.at_u64-b.ensures c.at_u64-c.ensures c.order_copy.ensures
