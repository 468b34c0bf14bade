-- `lafkuno::trips::lafkuno_orders` meets its contract. Assumes nothing.
use Rattle.transform.specs.Answer.{lent}
use Rattle.trip.specs.Trip.{calls_of}
use Rattle.lafkuno.proofs.TripCalls.{carries, low_place}
use Rattle.lafkuno.proofs.trips.lafkuno_orders.Goals as goal

pub answer_word-requires : goal.answer_word-requires
answer_word-requires c =
    let z = c.args in
    let x = lent z.plan.now z.parts.now z.sources.now z.lengths.now z.places.now z.body.now in
    low_place x z.counters.now z.room.now (calls_of z.orders.now) c.orders.ensures

pub returns : goal.returns
returns c = carries c.orders.ensures c.answer_word.ensures
