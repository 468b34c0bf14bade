-- `with_capacities::make` meets its contract. Assumes nothing.
use mathlib.Core.Path.{◌∙◌}
use lib.ListN.{replicate}
use Rattle.source_rules.specs.kinds.Rows.{tables_of}
use Rattle.walk.specs.Log.{Out}
use Rattle.refinement.specs.opening.Open.{open_walk_of}
use Rattle.refinement.specs.orders.Order.{lent}
use Rattle.with_capacities.proofs.Tried.{near_open}
use Rattle.with_capacities.proofs.Laws.{settled_no, settled_over, settled_made}
use borrow.Author.Rules.{rules}
use Rattle.with_capacities.proofs.make.Goals as goal

pub returns-then-g-ne0 : goal.returns-then-g-ne0
returns-then-g-ne0 c =
    let z = c.args in
    let o : Out = open_walk_of (lent z.draft.now z.parts.now z.sources.now z.lengths.now z.places.now z.body.now) (replicate 96 0) in
    λ formats schema buffers keep gaps q. settled_no formats schema z.sources.now (tables_of z.lengths.now z.places.now buffers z.body.now) keep gaps z.parts.now z.plan.now z.counters.now z.room.now q o (near_open (lent z.draft.now z.parts.now z.sources.now z.lengths.now z.places.now z.body.now) c.uncounted-tried.ensures) c.open_walk-g.ensures c.if-g-ne0.true

pub returns-then-not-parts_hold : goal.returns-then-not-parts_hold
returns-then-not-parts_hold c =
    let z = c.args in
    let o : Out = open_walk_of (lent z.draft.now z.parts.now z.sources.now z.lengths.now z.places.now z.body.now) (replicate 96 0) in
    λ formats schema buffers keep gaps q. settled_over formats schema z.sources.now (tables_of z.lengths.now z.places.now buffers z.body.now) keep gaps z.parts.now z.plan.now z.counters.now z.room.now q o (near_open (lent z.draft.now z.parts.now z.sources.now z.lengths.now z.places.now z.body.now) c.uncounted-tried.ensures) c.open_walk-g.ensures c.if-g-ne0.false c.parts_hold.ensures c.if-not-parts_hold.true-raw

pub store-requires : goal.store-requires
store-requires c = (c.requires.3, search rules)

pub store-requires-2 : goal.store-requires-2
store-requires-2 c = (c.requires.2, c.requires.1)

pub returns : goal.returns
returns c =
    let z = c.args in
    let o : Out = open_walk_of (lent z.draft.now z.parts.now z.sources.now z.lengths.now z.places.now z.body.now) (replicate 96 0) in
    λ formats schema buffers keep gaps q. settled_made formats schema z.sources.now (tables_of z.lengths.now z.places.now buffers z.body.now) keep gaps z.parts.now z.plan.now z.counters.now z.room.now q o (near_open (lent z.draft.now z.parts.now z.sources.now z.lengths.now z.places.now z.body.now) c.uncounted-tried.ensures) c.open_walk-g.ensures c.if-g-ne0.false c.parts_hold.ensures c.if-not-parts_hold.false-raw c.open_walk-g-2.ensures (c.store.ensures ∙ c.copied-made.ensures) c.store-2.ensures
