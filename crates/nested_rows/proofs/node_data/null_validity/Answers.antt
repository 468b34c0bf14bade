-- `leaf_data::null_validity` meets its contract. Assumes nothing.
use Rattle.leaf_walk.specs.Join.{join}
use Rattle.nested_rows.proofs.node_data.Laws.{nulls_counted, nulls_masked}
use Rattle.nested_rows.proofs.node_data.null_validity.Goals as goal

pub returns-then-not-is_masked : goal.returns-then-not-is_masked
returns-then-not-is_masked c =
    let a = c.args in
    λ lengths places body first source. nulls_counted (join a.plan.now a.parts.now lengths places body first source) a.write a.i a.n a.counters.now a.room.now c.code_of.ensures c.is_masked.ensures c.if-not-is_masked.true-raw (c.count_nulls.ensures a.parts.now lengths places body a.room.now first source a.write)

pub returns : goal.returns
returns c =
    let a = c.args in
    λ lengths places body first source. nulls_masked (join a.plan.now a.parts.now lengths places body first source) a.write a.i a.n a.counters.now a.room.now c.code_of.ensures c.is_masked.ensures c.if-not-is_masked.false-raw (c.null_mask.ensures lengths places body first source)
