-- `transform::sparse_rows::field_in` meets its contract. Assumes nothing.
use mathlib.Core.List.{[]}
use native.Mathlib.Omega.{arith}
use Rattle.array_data.proofs.lent_tables.Laws.{no, yes}
use Rattle.leaf_walk.specs.Join.{join}
use Rattle.nested_rows.proofs.lookups.Laws.{slot_rows}
use Rattle.transform.proofs.sparse_rows.Laws.{field_far, field_bits, field_rows}
use Rattle.transform.proofs.sparse_rows.field_in.Goals as goal

pub returns-then-slot-ge-FAR : goal.returns-then-slot-ge-FAR
returns-then-slot-ge-FAR c =
    let a = c.args in
    λ parts source. field_far (join a.plan.now parts a.lengths.now a.places.now a.body.now a.first source) a.k a.row a.n (c.slot_of-slot.ensures a.plan.now parts a.places.now a.body.now source) c.if-slot-ge-FAR.true

pub returns-then-not-bits_in : goal.returns-then-not-bits_in
returns-then-not-bits_in c =
    let a = c.args in
    λ parts source. field_bits (join a.plan.now parts a.lengths.now a.places.now a.body.now a.first source) a.k a.row a.n (c.slot_of-slot.ensures a.plan.now parts a.places.now a.body.now source) c.if-slot-ge-FAR.false (no (c.bits_in.ensures parts a.lengths.now source) c.if-not-bits_in.true-raw)

pub rows_in-requires : goal.rows_in-requires
rows_in-requires c =
    let a = c.args in
    (c.requires.2, omega (arith, slot_rows (join [] [] a.lengths.now [] [] a.first 0) a.k a.row a.n (c.slot_of-slot.ensures [] [] [] [] 0) c.if-slot-ge-FAR.false))

pub returns : goal.returns
returns c =
    let a = c.args in
    λ parts source. field_rows (join a.plan.now parts a.lengths.now a.places.now a.body.now a.first source) a.k a.row a.n (c.slot_of-slot.ensures a.plan.now parts a.places.now a.body.now source) c.if-slot-ge-FAR.false (yes (c.bits_in.ensures parts a.lengths.now source) c.if-not-bits_in.false-raw) c.place.ensures c.requires.3 (c.rows_in.ensures a.plan.now parts a.lengths.now a.places.now a.first source)
