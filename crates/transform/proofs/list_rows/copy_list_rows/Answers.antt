-- `transform::list_rows::copy_list_rows` meets its contract. Assumes nothing.
use mathlib.Core.List.{[]}
use native.Mathlib.Omega.{arith}
use Rattle.array_data.proofs.lent_tables.Laws.{no, yes}
use Rattle.leaf_walk.specs.Join.{join}
use Rattle.nested_rows.proofs.lookups.Laws.{slot_rows}
use Rattle.transform.proofs.null_ways.Laws.{lists_known}
use Rattle.transform.proofs.list_rows.Laws.{rows_far, rows_bits}
use Rattle.transform.proofs.list_rows.copy_list_rows.Goals as goal

pub returns-then-slot-ge-FAR : goal.returns-then-slot-ge-FAR
returns-then-slot-ge-FAR c =
    let a = c.args in
    let o = lists_known a.plan.now c.requires.2 in
    λ sources source. rows_far a.plan.now a.parts.now sources a.lengths.now a.places.now a.body.now a.first source a.start a.n a.counters.now a.room.now o (c.slot_of-slot.ensures a.plan.now a.parts.now a.places.now a.body.now source) c.if-slot-ge-FAR.true

pub returns-then-not-bits_in : goal.returns-then-not-bits_in
returns-then-not-bits_in c =
    let a = c.args in
    let o = lists_known a.plan.now c.requires.2 in
    λ sources source. rows_bits a.plan.now a.parts.now sources a.lengths.now a.places.now a.body.now a.first source a.start a.n a.counters.now a.room.now o (c.slot_of-slot.ensures a.plan.now a.parts.now a.places.now a.body.now source) c.if-slot-ge-FAR.false (no (c.bits_in.ensures a.parts.now a.lengths.now source) c.if-not-bits_in.true-raw)

pub copy_slots-requires : goal.copy_slots-requires
copy_slots-requires c =
    let a = c.args in
    record { counters_len = c.requires; n_bound = (omega (arith, slot_rows (join [] [] a.lengths.now [] [] a.first 0) 0 a.start a.n (c.slot_of-slot.ensures [] [] [] [] 0) c.if-slot-ge-FAR.false), yes (c.bits_in.ensures [] [] 0) c.if-not-bits_in.false-raw) }

pub returns : goal.returns
returns c =
    let a = c.args in
    λ sources source. c.copy_slots.ensures sources source a.start (c.slot_of-slot.ensures a.plan.now a.parts.now a.places.now a.body.now source)
