-- `transform::sparse_rows::copy_sparse` meets its contract. Assumes nothing.
use mathlib.Core.List.{[]}
use native.Mathlib.Omega.{arith}
use Rattle.leaf_walk.specs.Join.{join}
use Rattle.leaf_walk.proofs.Laws.{rows_in_lem}
use Rattle.nested_rows.proofs.lookups.Laws.{slot_rows}
use Rattle.transform.proofs.leaf_rows.Laws.{leaf_far}
use Rattle.transform.proofs.sparse_rows.Laws.{rows_no, rows_yes, sparse_ids, sparse_refused, sparse_in, sparse_made}
use Rattle.transform.proofs.sparse_rows.copy_sparse.Goals as goal

pub returns-then-slot-ge-FAR : goal.returns-then-slot-ge-FAR
returns-then-slot-ge-FAR c =
    let a = c.args in
    λ sources source. leaf_far a.plan.now a.parts.now sources a.lengths.now a.places.now a.body.now a.first source 0 a.start a.n a.counters.now a.room.now (omega arith) (c.slot_of-slot.ensures a.plan.now a.parts.now a.places.now a.body.now source) c.if-slot-ge-FAR.true

pub rows_in-requires : goal.rows_in-requires
rows_in-requires c =
    let a = c.args in
    (omega arith, omega (arith, slot_rows (join [] [] a.lengths.now [] [] a.first 0) 0 a.start a.n (c.slot_of-slot.ensures [] [] [] [] 0) c.if-slot-ge-FAR.false))

pub returns-then-not-rows_in : goal.returns-then-not-rows_in
returns-then-not-rows_in c =
    let a = c.args in
    λ sources source. sparse_ids a.plan.now a.parts.now sources a.lengths.now a.places.now a.body.now a.first source a.start a.n a.counters.now a.room.now c.requires.2 (c.slot_of-slot.ensures a.plan.now a.parts.now a.places.now a.body.now source) c.if-slot-ge-FAR.false (rows_no (join a.plan.now a.parts.now a.lengths.now a.places.now a.body.now a.first source) c.slot_of-slot.result a.n c.place.ensures (c.rows_in.ensures a.plan.now a.parts.now a.lengths.now a.places.now a.first source) c.if-not-rows_in.true-raw)

pub returns-then-g-ne0 : goal.returns-then-g-ne0
returns-then-g-ne0 c =
    let a = c.args in
    λ sources source. sparse_refused a.plan.now a.parts.now sources a.lengths.now a.places.now a.body.now a.first source a.start a.n a.counters.now a.room.now c.requires.2 (c.slot_of-slot.ensures a.plan.now a.parts.now a.places.now a.body.now source) c.if-slot-ge-FAR.false (rows_yes (join a.plan.now a.parts.now a.lengths.now a.places.now a.body.now a.first source) c.slot_of-slot.result a.n c.place.ensures (c.rows_in.ensures a.plan.now a.parts.now a.lengths.now a.places.now a.first source) c.if-not-rows_in.false-raw) c.requires.0 c.node_count-end.ensures.value (omega (arith, c.node_count-end.ensures.upper_bound)) (c.fields_ground-g.ensures.by_index source) (c.fields_ground-g.ensures.by_index_2 source) c.if-g-ne0.true

pub put_entries-requires : goal.put_entries-requires
put_entries-requires c =
    let a = c.args in
    record { first_bound = (c.requires.1, omega arith, omega (arith, slot_rows (join [] [] a.lengths.now [] [] a.first 0) 0 a.start a.n (c.slot_of-slot.ensures [] [] [] [] 0) c.if-slot-ge-FAR.false), omega arith, omega arith); n_in_bounds = omega (arith, c.place.ensures, rows_in_lem (join [] [] [] [] a.body.now 0 0) c.place.result 1 c.slot_of-slot.result a.n (c.rows_in.ensures [] [] [] [] 0 0) c.if-not-rows_in.false-raw) }

pub put_fields-requires : goal.put_fields-requires
put_fields-requires c =
    let a = c.args in
    record { counters_len = (c.requires.0, c.requires.1, omega (arith, c.node_count-end.ensures.upper_bound), c.node_count-end.ensures.value, c.requires.2); end_value = sparse_in a.plan.now a.parts.now [] a.lengths.now a.places.now a.body.now a.first 0 a.start a.n a.counters.now a.room.now c.requires.2 (c.slot_of-slot.ensures a.plan.now a.parts.now a.places.now a.body.now 0) c.if-slot-ge-FAR.false (rows_yes (join a.plan.now a.parts.now a.lengths.now a.places.now a.body.now a.first 0) c.slot_of-slot.result a.n c.place.ensures (c.rows_in.ensures a.plan.now a.parts.now a.lengths.now a.places.now a.first 0) c.if-not-rows_in.false-raw) c.requires.0 c.node_count-end.ensures.value (omega (arith, c.node_count-end.ensures.upper_bound)) (c.fields_ground-g.ensures.by_index 0) (c.fields_ground-g.ensures.by_index_2 0) c.if-g-ne0.false }

pub returns : goal.returns
returns c =
    let a = c.args in
    λ sources source. sparse_made a.plan.now a.parts.now sources a.lengths.now a.places.now a.body.now a.first source a.start a.n a.counters.now a.room.now c.requires.2 (c.slot_of-slot.ensures a.plan.now a.parts.now a.places.now a.body.now source) c.if-slot-ge-FAR.false (rows_yes (join a.plan.now a.parts.now a.lengths.now a.places.now a.body.now a.first source) c.slot_of-slot.result a.n c.place.ensures (c.rows_in.ensures a.plan.now a.parts.now a.lengths.now a.places.now a.first source) c.if-not-rows_in.false-raw) c.requires.0 c.node_count-end.ensures.value (omega (arith, c.node_count-end.ensures.upper_bound)) (c.fields_ground-g.ensures.by_index source) (c.fields_ground-g.ensures.by_index_2 source) c.if-g-ne0.false (c.put_entries.ensures a.lengths.now source) (c.put_fields.ensures source) c.add_to.ensures
