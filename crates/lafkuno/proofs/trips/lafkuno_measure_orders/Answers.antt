-- `lafkuno::trips::lafkuno_measure_orders` meets its contract. Assumes nothing.
use mathlib.Core.List.{[]}
use Rattle.transform.specs.Answer.{lent}
use Rattle.trip.specs.Trip.{calls_of}
use Rattle.lafkuno.proofs.TripCalls.{asks, low_asked}
use Rattle.lafkuno.proofs.trips.lafkuno_measure_orders.Goals as goal

pub answer_word-requires : goal.answer_word-requires
answer_word-requires c =
    let z = c.args in
    let x = lent z.plan.now [] z.sources.now z.lengths.now z.places.now z.body.now in
    low_asked x z.counters.now (calls_of z.orders.now) c.measure_orders.ensures

pub returns : goal.returns
returns c = asks c.measure_orders.ensures c.answer_word.ensures
