-- `batch_walk::numbers::reaches` meets its contract. Assumes nothing.
use Rattle.leaf_walk.specs.Join.{join}
use Rattle.batch.proofs.batch_walk.PlainLeaf.{reached_far, reached_near}
use Rattle.batch.proofs.numbers.reaches.Goals as goal

pub returns-then-slot-ge-FAR : goal.returns-then-slot-ge-FAR
returns-then-slot-ge-FAR c =
    let a = c.args in
    λ plan parts source. reached_far (join plan parts a.lengths.now a.places.now a.body.now a.first source) a.k a.w a.end (c.slot_of-slot.ensures plan parts a.places.now a.body.now source) c.if-slot-ge-FAR.true

pub returns : goal.returns
returns c =
    let a = c.args in
    λ plan parts source. reached_near (join plan parts a.lengths.now a.places.now a.body.now a.first source) a.k a.w a.end (c.slot_of-slot.ensures plan parts a.places.now a.body.now source) c.if-slot-ge-FAR.false c.place.ensures (c.rows_in.ensures plan parts a.lengths.now a.places.now a.first source)
