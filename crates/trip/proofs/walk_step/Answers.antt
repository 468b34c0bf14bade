-- `trip::walk_step` meets its contract. Assumes nothing.
use mathlib.Core.Path.{refl}
use Rattle.array_data.proofs.lent_tables.Laws.{no, yes}
use Rattle.transform.specs.Answer.{lent}
use Rattle.trip.specs.Trip.{call_at}
use Rattle.trip.proofs.Laws.{call_words, step_refused, step_unasked, step_asked}
use Rattle.trip.proofs.walk_step.Goals as goal

pub returns-then-g-ne0 : goal.returns-then-g-ne0
returns-then-g-ne0 c =
    let z = c.args in
    let x = lent z.plan.now z.parts.now z.sources.now z.lengths.now z.places.now z.body.now in
    step_refused x z.counters.now (call_at z.orders.now z.k) z.ask z.within (call_words x z.counters.now z.orders.now z.k c.at_u64-kind.ensures c.at_u64-a.ensures c.at_u64-b.ensures c.at_u64-c.ensures c.walk_order-g.ensures) c.if-g-ne0.true

pub returns-then-not-ask : goal.returns-then-not-ask
returns-then-not-ask c =
    let z = c.args in
    let x = lent z.plan.now z.parts.now z.sources.now z.lengths.now z.places.now z.body.now in
    step_unasked x z.counters.now (call_at z.orders.now z.k) z.ask z.within (call_words x z.counters.now z.orders.now z.k c.at_u64-kind.ensures c.at_u64-a.ensures c.at_u64-b.ensures c.at_u64-c.ensures c.walk_order-g.ensures) c.if-g-ne0.false (no refl c.if-not-ask.true-raw)

pub returns : goal.returns
returns c =
    let z = c.args in
    let x = lent z.plan.now z.parts.now z.sources.now z.lengths.now z.places.now z.body.now in
    step_asked x z.counters.now (call_at z.orders.now z.k) z.ask z.within (call_words x z.counters.now z.orders.now z.k c.at_u64-kind.ensures c.at_u64-a.ensures c.at_u64-b.ensures c.at_u64-c.ensures c.walk_order-g.ensures) c.if-g-ne0.false (yes refl c.if-not-ask.false-raw) c.held_ground.ensures
