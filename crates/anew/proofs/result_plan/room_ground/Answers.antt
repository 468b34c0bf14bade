-- `result_plan::room_ground` meets its contract. Assumes nothing.
use Rattle.anew.proofs.result_plan.Laws.{room_badly, room_small, room_good}
use Rattle.anew.proofs.result_plan.room_ground.Goals as goal

pub returns-then-not-room_placed : goal.returns-then-not-room_placed
returns-then-not-room_placed c =
    let z = c.args in
    room_badly z.plan.now z.tally.now z.parts.now z.words z.counters z.m c.room_placed.ensures c.if-not-room_placed.true-raw

pub returns-then-not-parts_hold : goal.returns-then-not-parts_hold
returns-then-not-parts_hold c =
    let z = c.args in
    room_small z.plan.now z.tally.now z.parts.now z.words z.counters z.m c.room_placed.ensures c.if-not-room_placed.false-raw c.parts_hold.ensures c.if-not-parts_hold.true-raw

pub returns : goal.returns
returns c =
    let z = c.args in
    room_good z.plan.now z.tally.now z.parts.now z.words z.counters z.m c.room_placed.ensures c.if-not-room_placed.false-raw c.parts_hold.ensures c.if-not-parts_hold.false-raw
