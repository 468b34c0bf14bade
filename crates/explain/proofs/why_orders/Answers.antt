-- `explain::why_orders` meets its contract. Assumes nothing.
use mathlib.Core.Path.{refl}
use Rattle.array_data.proofs.lent_tables.Laws.{no, yes}
use Rattle.transform.specs.Answer.{lent}
use Rattle.explain.proofs.Laws.{too_many, no_orders, foreign_counters, foreign_plan}
use Rattle.explain.proofs.why_orders.Goals as goal

pub returns-then-n-gt-LONGEST : goal.returns-then-n-gt-LONGEST
returns-then-n-gt-LONGEST c =
    let a = c.args in
    let x = lent a.plan.now a.parts.now a.sources.now a.lengths.now a.places.now a.body.now in
    too_many a.orders.now x a.m a.counters.now c.at_first.result c.if-n-gt-LONGEST.true c.at_first.ensures

pub returns-then-n-eq0 : goal.returns-then-n-eq0
returns-then-n-eq0 c =
    let a = c.args in
    let x = lent a.plan.now a.parts.now a.sources.now a.lengths.now a.places.now a.body.now in
    no_orders a.orders.now x a.m a.counters.now c.at_first-then-n-eq0.result c.if-n-gt-LONGEST.false refl c.if-n-eq0.true c.at_first-then-n-eq0.ensures

pub returns-then-counters-ne-COUNTERS : goal.returns-then-counters-ne-COUNTERS
returns-then-counters-ne-COUNTERS c =
    let a = c.args in
    let x = lent a.plan.now a.parts.now a.sources.now a.lengths.now a.places.now a.body.now in
    foreign_counters a.orders.now x a.m a.counters.now c.at_first-then-counters-ne-COUNTERS.result c.if-n-gt-LONGEST.false refl c.if-n-eq0.false c.at_first-then-counters-ne-COUNTERS.ensures c.if-counters-ne-COUNTERS.true

pub returns-then-not-is_walkable : goal.returns-then-not-is_walkable
returns-then-not-is_walkable c =
    let a = c.args in
    let x = lent a.plan.now a.parts.now a.sources.now a.lengths.now a.places.now a.body.now in
    foreign_plan a.orders.now x a.m a.counters.now c.at_first-then-not-is_walkable.result c.if-n-gt-LONGEST.false refl c.if-n-eq0.false c.at_first-then-not-is_walkable.ensures c.if-counters-ne-COUNTERS.false (no c.is_walkable.ensures c.if-not-is_walkable.true-raw)

pub walk_orders-requires : goal.walk_orders-requires
walk_orders-requires c = (c.if-counters-ne-COUNTERS.false, c.if-n-gt-LONGEST.false, refl, yes c.is_walkable.ensures c.if-not-is_walkable.false-raw)

pub returns : goal.returns
returns c = c.walk_orders.ensures
