-- `transform::list_rows::copy_items` meets its contract. Assumes nothing.
use mathlib.Core.Path.{refl, ap, ◌∙◌}
use mathlib.Core.List.{[]}
use Prim.Native.Nat.{ℕ, ◌-◌}
use native.Mathlib.Omega.{arith}
use Rattle.schema.specs.formats.Code.{is_fixed}
use Rattle.array_data.proofs.lent_tables.Laws.{no, yes}
use Rattle.walk.specs.State.{code_of, rows}
use Rattle.leaf_walk.specs.Join.{join}
use Rattle.leaf_walk.proofs.Laws.{rows_in_lem}
use Rattle.leaf_walk.proofs.variable_size.Laws.{fits_is}
use Rattle.nested_rows.proofs.lookups.Laws.{slot_rows}
use Rattle.plan.specs.parts.Parts.{entry_size}
use Rattle.transform.proofs.numbers.Laws.{number_wide}
use Rattle.transform.proofs.null_ways.Laws.{lists_known}
use Rattle.transform.proofs.list_rows.Laws.{inner_far, inner_bits, inner_out}
use Rattle.transform.proofs.list_rows.copy_items.Goals as goal

pub overflow_sub-k : goal.overflow_sub-k
overflow_sub-k c =
    let a = c.args in
    omega (arith, c.at_u64.ensures, (fits_is a.w a.body.now a.from a.n (rows a.counters.now 1) refl c.requires.counters_value).0)

pub returns-then-inner-ge-FAR : goal.returns-then-inner-ge-FAR
returns-then-inner-ge-FAR c =
    let a = c.args in
    let o = lists_known a.plan.now c.requires.counters_len.2 in
    λ sources source start s. inner_far a.plan.now a.parts.now sources a.lengths.now a.places.now a.body.now a.first source start a.n a.counters.now a.room.now o s (omega (arith, c.requires.rows_in_lem.4)) c.requires.rows_in_lem.3 c.requires.counters_len.3 c.requires.counters_len.0 c.requires.rows_in_lem.0 c.requires.rows_in_lem.1 c.requires.rows_in_lem.2 c.requires.counters_value (ap (λ (v : ℕ). a.last - v) c.at_u64.ensures) (c.slot_of-inner.ensures a.plan.now a.parts.now a.places.now a.body.now source) c.if-inner-ge-FAR.true

pub returns-then-not-bits_in : goal.returns-then-not-bits_in
returns-then-not-bits_in c =
    let a = c.args in
    let o = lists_known a.plan.now c.requires.counters_len.2 in
    λ sources source start s. inner_bits a.plan.now a.parts.now sources a.lengths.now a.places.now a.body.now a.first source start a.n a.counters.now a.room.now o s (omega (arith, c.requires.rows_in_lem.4)) c.requires.rows_in_lem.3 c.requires.counters_len.3 c.requires.counters_len.0 c.requires.rows_in_lem.0 c.requires.rows_in_lem.1 c.requires.rows_in_lem.2 c.requires.counters_value (ap (λ (v : ℕ). a.last - v) c.at_u64.ensures) (c.slot_of-inner.ensures a.plan.now a.parts.now a.places.now a.body.now source) c.if-inner-ge-FAR.false (no (c.bits_in.ensures a.parts.now a.lengths.now source) c.if-not-bits_in.true-raw)

pub rows_in-requires : goal.rows_in-requires
rows_in-requires c =
    let a = c.args in
    ((number_wide (code_of a.plan.now 1) (lists_known a.plan.now c.requires.counters_len.2).items.fixed (c.number_size-v.ensures ∙ ap entry_size c.code_of.ensures)).1, omega (arith, slot_rows (join [] [] a.lengths.now [] [] a.first 0) 1 a.lead (a.last - c.at_u64.result) (c.slot_of-inner.ensures [] [] [] [] 0) c.if-inner-ge-FAR.false))

pub returns-then-not-rows_in : goal.returns-then-not-rows_in
returns-then-not-rows_in c =
    let a = c.args in
    let o = lists_known a.plan.now c.requires.counters_len.2 in
    λ sources source start s. inner_out a.plan.now a.parts.now sources a.lengths.now a.places.now a.body.now a.first source start a.n a.counters.now a.room.now o s (omega (arith, c.requires.rows_in_lem.4)) c.requires.rows_in_lem.3 c.requires.counters_len.3 c.requires.counters_len.0 c.requires.rows_in_lem.0 c.requires.rows_in_lem.1 c.requires.rows_in_lem.2 c.requires.counters_value (ap (λ (v : ℕ). a.last - v) c.at_u64.ensures) (c.slot_of-inner.ensures a.plan.now a.parts.now a.places.now a.body.now source) c.if-inner-ge-FAR.false (yes (c.bits_in.ensures a.parts.now a.lengths.now source) c.if-not-bits_in.false-raw) (rw (c.place-at.ensures, c.number_size-v.ensures ∙ ap entry_size c.code_of.ensures) at (no (c.rows_in.ensures a.plan.now a.parts.now a.lengths.now a.places.now a.first source) c.if-not-rows_in.true-raw))

pub write_rows-requires : goal.write_rows-requires
write_rows-requires c =
    let a = c.args in
    let y = rows_in_lem (join [] [] [] [] a.body.now 0 0) c.place-at.result c.number_size-v.result c.slot_of-inner.result (a.last - c.at_u64.result) (c.rows_in.ensures [] [] [] [] 0 0) c.if-not-rows_in.false-raw in
    record { counters_len = c.requires.counters_len; rows_in_lem = c.requires.rows_in_lem; items_in = (c.number_size-v.ensures ∙ ap entry_size c.code_of.ensures, rw c.place-at.ensures at y, yes (c.bits_in.ensures [] [] 0) c.if-not-bits_in.false-raw, slot_rows (join [] [] a.lengths.now [] [] a.first 0) 1 a.lead (a.last - c.at_u64.result) (c.slot_of-inner.ensures [] [] [] [] 0) c.if-inner-ge-FAR.false) }

pub returns : goal.returns
returns c =
    let a = c.args in
    λ sources source start s. c.write_rows.ensures sources a.lengths.now source start a.last a.lead s (c.requires.counters_value, ap (λ (v : ℕ). a.last - v) c.at_u64.ensures, (c.slot_of-inner.ensures a.plan.now a.parts.now a.places.now a.body.now source))
