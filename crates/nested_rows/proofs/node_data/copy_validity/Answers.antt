-- `leaf_data::copy_validity` meets its contract. Assumes nothing.
use Rattle.leaf_walk.specs.Join.{join}
use Rattle.nested_rows.proofs.node_data.Laws.{valid_none, valid_some}
use Rattle.nested_rows.proofs.node_data.copy_validity.Goals as goal

pub returns-then-not-is_masked : goal.returns-then-not-is_masked
returns-then-not-is_masked c =
    let a = c.args in
    λ lengths source. valid_none (join a.plan.now a.parts.now lengths a.places.now a.body.now a.first source) a.write a.i a.slot a.n a.counters.now a.room.now c.code_of.ensures c.is_masked.ensures c.if-not-is_masked.true-raw

pub returns : goal.returns
returns c =
    let a = c.args in
    λ lengths source. valid_some (join a.plan.now a.parts.now lengths a.places.now a.body.now a.first source) a.write a.i a.slot a.n a.counters.now a.room.now c.code_of.ensures c.is_masked.ensures c.if-not-is_masked.false-raw (c.copy_mask.ensures lengths source)
