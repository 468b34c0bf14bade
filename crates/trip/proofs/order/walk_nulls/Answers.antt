-- `trip::order::walk_nulls` meets its contract. Assumes nothing.
use Rattle.transform.specs.Answer.{lent}
use Rattle.trip.proofs.Laws.{walk_no_nulls, walk_nulled}
use Rattle.trip.proofs.order.walk_nulls.Goals as goal

pub returns-then-keeps_of-eq0 : goal.returns-then-keeps_of-eq0
returns-then-keeps_of-eq0 c =
    let z = c.args in
    λ sources lengths places body. walk_no_nulls (lent z.plan.now z.parts.now sources lengths places body) z.counters.now z.n c.keeps_of.ensures c.if-keeps_of-eq0.true

pub returns : goal.returns
returns c =
    let z = c.args in
    λ sources lengths places body. walk_nulled (lent z.plan.now z.parts.now sources lengths places body) z.counters.now z.n c.keeps_of.ensures c.if-keeps_of-eq0.false c.at_most_far-m.ensures c.extend_nulls.ensures
