-- `batch::batch_walk::copy_union` meets its contract. Assumes nothing.
use mathlib.Core.Path.{refl}
use mathlib.Core.List.{[]}
use native.Mathlib.Omega.{arith}
use Rattle.leaf_walk.specs.Join.{join}
use Rattle.nested_rows.proofs.lookups.Laws.{slot_rows}
use Rattle.batch.specs.Batch.{batch_below}
use Rattle.batch.proofs.batch_walk.Node.{kids_flat, dense_mask, data_dense, walk_is, node_far, node_stop, node_done}
use Rattle.batch.proofs.batch_walk.copy_union.Goals as goal

pub returns-then-slot-ge-FAR : goal.returns-then-slot-ge-FAR
returns-then-slot-ge-FAR c =
    let a = c.args in
    λ source. rw (walk_is (join a.plan.now a.parts.now a.lengths.now a.places.now a.body.now a.first source) 0 a.a a.n a.counters.now) (node_far (join a.plan.now a.parts.now a.lengths.now a.places.now a.body.now a.first source) (batch_below (join a.plan.now a.parts.now a.lengths.now a.places.now a.body.now a.first source) 6) 0 (omega arith) (dense_mask (join a.plan.now a.parts.now a.lengths.now a.places.now a.body.now a.first source) c.requires.2 (batch_below (join a.plan.now a.parts.now a.lengths.now a.places.now a.body.now a.first source) 6)) a.a a.n a.write a.counters.now a.room.now (c.slot_of-slot.ensures a.plan.now a.parts.now a.places.now a.body.now source) c.if-slot-ge-FAR.true)

pub returns-then-g-ne0 : goal.returns-then-g-ne0
returns-then-g-ne0 c =
    let a = c.args in
    λ source. rw (walk_is (join a.plan.now a.parts.now a.lengths.now a.places.now a.body.now a.first source) 0 a.a a.n a.counters.now) (node_stop (join a.plan.now a.parts.now a.lengths.now a.places.now a.body.now a.first source) (batch_below (join a.plan.now a.parts.now a.lengths.now a.places.now a.body.now a.first source) 6) 0 (omega arith) (dense_mask (join a.plan.now a.parts.now a.lengths.now a.places.now a.body.now a.first source) c.requires.2 (batch_below (join a.plan.now a.parts.now a.lengths.now a.places.now a.body.now a.first source) 6)) a.a a.n a.write a.counters.now a.room.now (c.slot_of-slot.ensures a.plan.now a.parts.now a.places.now a.body.now source) c.if-slot-ge-FAR.false (data_dense (join a.plan.now a.parts.now a.lengths.now a.places.now a.body.now a.first source) c.requires.2 (batch_below (join a.plan.now a.parts.now a.lengths.now a.places.now a.body.now a.first source) 6) c.slot_of-slot.result a.n a.counters.now (c.copy_dense-g.ensures source)) c.if-g-ne0.true)

pub returns : goal.returns
returns c =
    let a = c.args in
    λ source. rw (walk_is (join a.plan.now a.parts.now a.lengths.now a.places.now a.body.now a.first source) 0 a.a a.n a.counters.now) (node_done (join a.plan.now a.parts.now a.lengths.now a.places.now a.body.now a.first source) (batch_below (join a.plan.now a.parts.now a.lengths.now a.places.now a.body.now a.first source) 6) 0 (omega arith) (dense_mask (join a.plan.now a.parts.now a.lengths.now a.places.now a.body.now a.first source) c.requires.2 (batch_below (join a.plan.now a.parts.now a.lengths.now a.places.now a.body.now a.first source) 6)) a.a a.n a.write a.counters.now a.room.now (c.slot_of-slot.ensures a.plan.now a.parts.now a.places.now a.body.now source) c.if-slot-ge-FAR.false (data_dense (join a.plan.now a.parts.now a.lengths.now a.places.now a.body.now a.first source) c.requires.2 (batch_below (join a.plan.now a.parts.now a.lengths.now a.places.now a.body.now a.first source) 6) c.slot_of-slot.result a.n a.counters.now (c.copy_dense-g.ensures source)) c.if-g-ne0.false c.add_rows.ensures)

pub copy_dense-g-requires : goal.copy_dense-g-requires
copy_dense-g-requires c =
    let a = c.args in
    (c.requires.0, omega arith, slot_rows (join [] [] a.lengths.now [] [] a.first 0) 0 a.a a.n (c.slot_of-slot.ensures [] [] [] [] 0) c.if-slot-ge-FAR.false, kids_flat a.plan.now c.requires.1 refl c.requires.2)
