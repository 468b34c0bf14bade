-- `explain::order_nulls` meets its contract. Assumes nothing.
use Rattle.transform.specs.Answer.{lent}
use Rattle.explain.proofs.Laws.{no_nulls, nulled}
use Rattle.explain.proofs.order_nulls.Goals as goal

pub returns-then-keeps_of-eq0 : goal.returns-then-keeps_of-eq0
returns-then-keeps_of-eq0 c =
    let a = c.args in
    λ sources lengths places body. no_nulls (lent a.plan.now a.parts.now sources lengths places body) a.m a.n c.keeps_of.ensures c.if-keeps_of-eq0.true c.plain.ensures

pub returns : goal.returns
returns c =
    let a = c.args in
    λ sources lengths places body. nulled (lent a.plan.now a.parts.now sources lengths places body) a.m a.n c.keeps_of.ensures c.if-keeps_of-eq0.false (c.add_nulls.ensures sources lengths places body)
