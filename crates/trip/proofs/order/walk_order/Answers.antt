-- `trip::order::walk_order` meets its contract. Assumes nothing.
use Rattle.transform.specs.Answer.{lent}
use Rattle.trip.proofs.Laws.{call_nulls, call_copy}
use Rattle.trip.proofs.order.walk_order.Goals as goal

pub returns-then-kind-ne-COPY : goal.returns-then-kind-ne-COPY
returns-then-kind-ne-COPY c =
    let z = c.args in
    let x = lent z.plan.now z.parts.now z.sources.now z.lengths.now z.places.now z.body.now in
    call_nulls x z.counters.now z.kind z.a z.b z.c c.if-kind-ne-COPY.true (c.walk_nulls.ensures z.sources.now z.lengths.now z.places.now z.body.now)

pub returns : goal.returns
returns c =
    let z = c.args in
    let x = lent z.plan.now z.parts.now z.sources.now z.lengths.now z.places.now z.body.now in
    call_copy x z.counters.now z.kind z.a z.b z.c c.if-kind-ne-COPY.false c.source_of.ensures c.walk_copy.ensures
