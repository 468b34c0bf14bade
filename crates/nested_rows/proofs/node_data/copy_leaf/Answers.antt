-- `leaf_data::copy_leaf` meets its contract. Assumes nothing.
use native.Mathlib.Omega.{arith}
use Rattle.room_writes.proofs.Bytes.{width_in_lem}
use Rattle.leaf_walk.specs.Join.{join}
use Rattle.nested_rows.proofs.node_data.Laws.{fixed_wide, string_wide, to_numbers, to_keys, to_string, to_views, to_none}
use borrow.Author.Rules.{rules}
use Rattle.nested_rows.proofs.node_data.copy_leaf.Goals as goal

pub copy_numbers-requires : goal.copy_numbers-requires
copy_numbers-requires c =
    let a = c.args in
    omega (arith, width_in_lem c.width_at-w.result (fixed_wide a.plan.now a.i c.code_of-code.ensures c.width_at-w.ensures c.is_fixed.ensures c.if-is_fixed.true))

pub returns-then-dictionary_of-eq0 : goal.returns-then-dictionary_of-eq0
returns-then-dictionary_of-eq0 c =
    let a = c.args in
    λ lengths child. to_numbers (join a.plan.now a.parts.now lengths a.places.now a.body.now a.first a.source) child a.write a.i a.slot a.n a.counters.now a.room.now c.code_of-code.ensures c.width_at-w.ensures c.is_fixed.ensures c.if-is_fixed.true c.dictionary_of.ensures c.if-dictionary_of-eq0.true (c.copy_numbers.ensures lengths a.source)

pub copy_keys-requires : goal.copy_keys-requires
copy_keys-requires c =
    let a = c.args in
    record { first_bound = search rules; w_value = fixed_wide a.plan.now a.i c.code_of-code.ensures c.width_at-w.ensures c.is_fixed.ensures c.if-is_fixed.true; w_value_2 = c.width_at-w.ensures }

pub returns-then-is_fixed : goal.returns-then-is_fixed
returns-then-is_fixed c =
    let a = c.args in
    λ lengths child. to_keys (join a.plan.now a.parts.now lengths a.places.now a.body.now a.first a.source) child a.write a.i a.slot a.n a.counters.now a.room.now c.code_of-code.ensures c.width_at-w.ensures c.is_fixed.ensures c.if-is_fixed.true c.dictionary_of.ensures c.if-dictionary_of-eq0.false (c.copy_keys.ensures lengths)

pub copy_string-requires : goal.copy_string-requires
copy_string-requires c =
    let a = c.args in
    record { first_bound = search rules; w_value = string_wide a.plan.now a.i c.code_of-code.ensures c.width_at-w.ensures c.is_string.ensures c.if-is_string.true }

pub returns-then-is_string : goal.returns-then-is_string
returns-then-is_string c =
    let a = c.args in
    λ lengths child. to_string (join a.plan.now a.parts.now lengths a.places.now a.body.now a.first a.source) child a.write a.i a.slot a.n a.counters.now a.room.now c.code_of-code.ensures c.width_at-w.ensures c.is_fixed.ensures c.if-is_fixed.false c.is_string.ensures c.if-is_string.true (c.copy_string.ensures lengths a.source)

pub returns-then-is_view : goal.returns-then-is_view
returns-then-is_view c =
    let a = c.args in
    λ lengths child. to_views (join a.plan.now a.parts.now lengths a.places.now a.body.now a.first a.source) child a.write a.i a.slot a.n a.counters.now a.room.now c.code_of-code.ensures c.width_at-w.ensures c.is_fixed.ensures c.if-is_fixed.false c.is_string.ensures c.if-is_string.false c.is_view.ensures c.if-is_view.true (c.copy_views.ensures lengths)

pub returns : goal.returns
returns c =
    let a = c.args in
    λ lengths child. to_none (join a.plan.now a.parts.now lengths a.places.now a.body.now a.first a.source) child a.write a.i a.slot a.n a.counters.now a.room.now c.code_of-code.ensures c.width_at-w.ensures c.is_fixed.ensures c.if-is_fixed.false c.is_string.ensures c.if-is_string.false c.is_view.ensures c.if-is_view.false c.requires.bound
