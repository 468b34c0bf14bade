-- `transform::leaf_rows::copy_leaf_rows` meets its contract. Assumes nothing.
use mathlib.Core.List.{[]}
use native.Mathlib.Omega.{arith}
use Rattle.schema.specs.formats.Code.{is_string}
use Rattle.array_data.proofs.lent_tables.Laws.{no, yes}
use Rattle.leaf_walk.specs.Join.{join}
use Rattle.nested_rows.proofs.lookups.Laws.{slot_rows}
use Rattle.transform.proofs.leaf_rows.Laws.{leaf_far, leaf_bits}
use Rattle.transform.proofs.leaf_rows.Entries.{told}
use Rattle.transform.proofs.leaf_rows.copy_leaf_rows.Goals as goal

pub returns-then-slot-ge-FAR : goal.returns-then-slot-ge-FAR
returns-then-slot-ge-FAR c =
    let a = c.args in
    λ sources. leaf_far a.plan.now a.parts.now sources a.lengths.now a.places.now a.body.now a.first a.source 0 a.start a.n a.counters.now a.room.now (omega arith) (c.slot_of-slot.ensures a.plan.now a.parts.now a.places.now a.body.now a.source) c.if-slot-ge-FAR.true

pub returns-then-not-bits_in : goal.returns-then-not-bits_in
returns-then-not-bits_in c =
    let a = c.args in
    λ sources. leaf_bits a.plan.now a.parts.now sources a.lengths.now a.places.now a.body.now a.first a.source 0 a.start a.n a.counters.now a.room.now (omega arith) (c.slot_of-slot.ensures a.plan.now a.parts.now a.places.now a.body.now a.source) c.if-slot-ge-FAR.false c.requires.5 (no (c.bits_in.ensures a.parts.now a.lengths.now a.source) c.if-not-bits_in.true-raw)

pub copy_text-requires : goal.copy_text-requires
copy_text-requires c =
    let a = c.args in
    record { counters_len = (c.requires.0, c.requires.1, omega arith, (omega (arith, slot_rows (join [] [] a.lengths.now [] [] a.first 0) 0 a.start a.n (c.slot_of-slot.ensures [] [] [] [] 0) c.if-slot-ge-FAR.false)), c.requires.3); i_value = told is_string c.code_of.ensures c.is_string.ensures c.if-is_string.true; n_value = (yes (c.bits_in.ensures [] [] 0) c.if-not-bits_in.false-raw) }

pub returns-then-is_string : goal.returns-then-is_string
returns-then-is_string c =
    let a = c.args in
    λ sources. c.copy_text.ensures sources a.lengths.now a.source a.start (c.slot_of-slot.ensures a.plan.now a.parts.now a.places.now a.body.now a.source)

pub copy_entries-requires : goal.copy_entries-requires
copy_entries-requires c =
    let a = c.args in
    record { counters_len = (c.requires.0, c.requires.1, c.requires.2, omega arith, (omega (arith, slot_rows (join [] [] a.lengths.now [] [] a.first 0) 0 a.start a.n (c.slot_of-slot.ensures [] [] [] [] 0) c.if-slot-ge-FAR.false))); bound = (c.requires.4, c.requires.5, told is_string c.code_of.ensures c.is_string.ensures c.if-is_string.false); n_value = (yes (c.bits_in.ensures [] [] 0) c.if-not-bits_in.false-raw) }

pub returns : goal.returns
returns c =
    let a = c.args in
    λ sources. c.copy_entries.ensures sources a.lengths.now a.start (c.slot_of-slot.ensures a.plan.now a.parts.now a.places.now a.body.now a.source)
