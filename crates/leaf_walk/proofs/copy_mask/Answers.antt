-- `leaf_walk::copy_mask` meets its contract. Assumes nothing.
use Rattle.leaf_walk.specs.Join.{join}
use Rattle.leaf_walk.proofs.Laws.{mask_off, mask_ones, mask_bits}
use Rattle.leaf_walk.proofs.copy_mask.Goals as goal

pub returns-then-keeps_of-eq0 : goal.returns-then-keeps_of-eq0
returns-then-keeps_of-eq0 c =
    let a = c.args in
    λ lengths source. mask_off (join a.plan.now a.parts.now lengths a.places.now a.body.now a.first source) a.i a.write a.counters.now a.room.now a.slot a.n c.keeps_of.ensures c.if-keeps_of-eq0.true

pub returns-then-place-eq0 : goal.returns-then-place-eq0
returns-then-place-eq0 c =
    let a = c.args in
    λ lengths source. mask_ones (join a.plan.now a.parts.now lengths a.places.now a.body.now a.first source) a.i a.write a.counters.now a.room.now a.slot a.n c.keeps_of.ensures c.if-keeps_of-eq0.false c.place.ensures c.if-place-eq0.true c.rows_of-p.ensures c.put_ones.ensures

pub returns : goal.returns
returns c =
    let a = c.args in
    λ lengths source. mask_bits (join a.plan.now a.parts.now lengths a.places.now a.body.now a.first source) a.i a.write a.counters.now a.room.now a.slot a.n c.keeps_of.ensures c.if-keeps_of-eq0.false c.place.ensures c.if-place-eq0.false (c.copy_bits.ensures lengths source)
