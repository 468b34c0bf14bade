-- `open_walk::open_dictionary` meets its contract. Assumes nothing.
use Rattle.refinement.specs.orders.Order.{lent}
use Rattle.with_capacities.proofs.open_walk.Laws.{dictionary_none, dictionary_many, dictionary_stop, dictionary_over, dictionary_done}
use Rattle.with_capacities.proofs.open_walk.open_dictionary.Goals as goal

pub returns-then-dictionary_of-eq0 : goal.returns-then-dictionary_of-eq0
returns-then-dictionary_of-eq0 c =
    let z = c.args in
    dictionary_none (lent z.plan.now z.parts.now z.sources.now z.lengths.now z.places.now z.body.now) z.write z.i z.counters.now z.room.now c.dictionary_of.ensures c.if-dictionary_of-eq0.true

pub returns-then-not-entries_hold : goal.returns-then-not-entries_hold
returns-then-not-entries_hold c =
    let z = c.args in
    dictionary_many (lent z.plan.now z.parts.now z.sources.now z.lengths.now z.places.now z.body.now) z.write z.i z.counters.now z.room.now c.dictionary_of.ensures c.if-dictionary_of-eq0.false (c.entries_hold.ensures z.parts.now z.places.now z.body.now) c.if-not-entries_hold.true-raw

pub returns-then-g-ne0 : goal.returns-then-g-ne0
returns-then-g-ne0 c =
    let z = c.args in
    dictionary_stop (lent z.plan.now z.parts.now z.sources.now z.lengths.now z.places.now z.body.now) z.write z.i z.counters.now z.room.now c.dictionary_of.ensures c.if-dictionary_of-eq0.false (c.entries_hold.ensures z.parts.now z.places.now z.body.now) c.if-not-entries_hold.false-raw c.join_values-g.ensures c.if-g-ne0.true

pub returns-then-not-keys_hold : goal.returns-then-not-keys_hold
returns-then-not-keys_hold c =
    let z = c.args in
    dictionary_over (lent z.plan.now z.parts.now z.sources.now z.lengths.now z.places.now z.body.now) z.write z.i z.counters.now z.room.now c.dictionary_of.ensures c.if-dictionary_of-eq0.false (c.entries_hold.ensures z.parts.now z.places.now z.body.now) c.if-not-entries_hold.false-raw c.join_values-g.ensures c.if-g-ne0.false (c.keys_hold.ensures z.parts.now z.places.now z.body.now) c.if-not-keys_hold.true-raw

pub returns : goal.returns
returns c =
    let z = c.args in
    dictionary_done (lent z.plan.now z.parts.now z.sources.now z.lengths.now z.places.now z.body.now) z.write z.i z.counters.now z.room.now c.dictionary_of.ensures c.if-dictionary_of-eq0.false (c.entries_hold.ensures z.parts.now z.places.now z.body.now) c.if-not-entries_hold.false-raw c.join_values-g.ensures c.if-g-ne0.false (c.keys_hold.ensures z.parts.now z.places.now z.body.now) c.if-not-keys_hold.false-raw
