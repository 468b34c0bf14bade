-- `trip::carry_out` meets its contract. Assumes nothing.
use mathlib.Core.Path.{◌∙◌}
use Rattle.transform.specs.Answer.{lent}
use Rattle.sound.proofs.trying.Laws.{alike_to}
use Rattle.trip.proofs.Laws.{given_up_lem, carried_out_lem}
use borrow.Author.Rules.{rules}
use Rattle.trip.proofs.carry_out.Goals as goal

pub walk_orders-e-requires : goal.walk_orders-e-requires
walk_orders-e-requires c = c.requires.1

pub returns-then-e-ne0 : goal.returns-then-e-ne0
returns-then-e-ne0 c =
    let z = c.args in
    let x = lent z.plan.now z.parts.now z.sources.now z.lengths.now z.places.now z.body.now in
    given_up_lem z.orders.now x z.counters.now z.room.now c.requires.1 c.requires.2 c.requires.0 c.requires.3 c.parts_within-within.ensures (alike_to c.uncount.ensures.alike c.load-tried.ensures) c.walk_orders-e.result c.walk_orders-e.ensures c.if-e-ne0.true

pub walk_orders-e-requires-2 : goal.walk_orders-e-requires-2
walk_orders-e-requires-2 c = c.requires.1

pub returns : goal.returns
returns c =
    let z = c.args in
    let x = lent z.plan.now z.parts.now z.sources.now z.lengths.now z.places.now z.body.now in
    carried_out_lem z.orders.now x z.counters.now z.room.now c.requires.1 c.requires.2 c.requires.0 c.requires.3 c.parts_within-within.ensures (alike_to c.uncount.ensures.alike c.load-tried.ensures) c.walk_orders-e.result c.walk_orders-e.ensures c.if-e-ne0.false c.walk_orders-e-2.result c.parts_within-within.result c.load-tally.ensures c.walk_orders-e-2.ensures c.store.ensures
