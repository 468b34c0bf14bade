-- `leaf_data::null_leaf` meets its contract. Assumes nothing.
use native.Mathlib.Omega.{arith}
use Rattle.room_writes.proofs.Bytes.{width_in_lem}
use Rattle.leaf_walk.specs.Join.{join}
use Rattle.nested_rows.proofs.node_data.Laws.{fixed_wide, string_wide, list_wide, lists_wide, on_numbers, on_string, on_views, on_list_view, on_list, on_none}
use borrow.Author.Rules.{rules}
use Rattle.nested_rows.proofs.node_data.null_leaf.Goals as goal

pub null_numbers-requires : goal.null_numbers-requires
null_numbers-requires c =
    let a = c.args in
    omega (arith, width_in_lem c.width_at-w.result (fixed_wide a.plan.now a.i c.code_of-code.ensures c.width_at-w.ensures c.is_fixed.ensures c.if-is_fixed.true))

pub returns-then-is_fixed : goal.returns-then-is_fixed
returns-then-is_fixed c =
    let a = c.args in
    λ lengths places body first source child. on_numbers (join a.plan.now a.parts.now lengths places body first source) child a.write a.i a.n a.counters.now a.room.now c.code_of-code.ensures c.width_at-w.ensures c.is_fixed.ensures c.if-is_fixed.true (c.null_numbers.ensures lengths places body first source)

pub null_string-requires : goal.null_string-requires
null_string-requires c =
    let a = c.args in
    record { i_bound = search rules; w_value = string_wide a.plan.now a.i c.code_of-code.ensures c.width_at-w.ensures c.is_string.ensures c.if-is_string.true }

pub returns-then-is_string : goal.returns-then-is_string
returns-then-is_string c =
    let a = c.args in
    λ lengths places body first source child. on_string (join a.plan.now a.parts.now lengths places body first source) child a.write a.i a.n a.counters.now a.room.now c.code_of-code.ensures c.width_at-w.ensures c.is_fixed.ensures c.if-is_fixed.false c.is_string.ensures c.if-is_string.true (c.null_string.ensures lengths places body first source)

pub returns-then-is_view : goal.returns-then-is_view
returns-then-is_view c =
    let a = c.args in
    λ lengths places body first source child. on_views (join a.plan.now a.parts.now lengths places body first source) child a.write a.i a.n a.counters.now a.room.now c.code_of-code.ensures c.width_at-w.ensures c.is_fixed.ensures c.if-is_fixed.false c.is_string.ensures c.if-is_string.false c.is_view.ensures c.if-is_view.true (c.null_numbers-then-is_view.ensures lengths places body first source)

pub null_list_view-requires : goal.null_list_view-requires
null_list_view-requires c =
    let a = c.args in
    omega (arith, width_in_lem c.width_at-w.result (λ p q. list_wide a.plan.now a.i c.code_of-code.ensures c.width_at-w.ensures c.is_list_view.ensures c.if-is_list_view.true))

pub returns-then-is_list_view : goal.returns-then-is_list_view
returns-then-is_list_view c =
    let a = c.args in
    λ lengths places body first source child. on_list_view (join a.plan.now a.parts.now lengths places body first source) child a.write a.i a.n a.counters.now a.room.now c.code_of-code.ensures c.width_at-w.ensures c.is_fixed.ensures c.if-is_fixed.false c.is_string.ensures c.if-is_string.false c.is_view.ensures c.if-is_view.false c.is_list_view.ensures c.if-is_list_view.true (c.null_list_view.ensures lengths places body first source child)

pub null_list-requires : goal.null_list-requires
null_list-requires c =
    let a = c.args in
    record { i_bound = search rules; w_value = lists_wide a.plan.now a.i c.code_of-code.ensures c.width_at-w.ensures c.is_list.ensures c.if-is_list.true }

pub returns-then-is_list : goal.returns-then-is_list
returns-then-is_list c =
    let a = c.args in
    λ lengths places body first source child. on_list (join a.plan.now a.parts.now lengths places body first source) child a.write a.i a.n a.counters.now a.room.now c.code_of-code.ensures c.width_at-w.ensures c.is_fixed.ensures c.if-is_fixed.false c.is_string.ensures c.if-is_string.false c.is_view.ensures c.if-is_view.false c.is_list_view.ensures c.if-is_list_view.false c.is_list.ensures c.if-is_list.true (c.null_list.ensures lengths places body first source child)

pub returns : goal.returns
returns c =
    let a = c.args in
    λ lengths places body first source child. on_none (join a.plan.now a.parts.now lengths places body first source) child a.write a.i a.n a.counters.now a.room.now c.code_of-code.ensures c.width_at-w.ensures c.is_fixed.ensures c.if-is_fixed.false c.is_string.ensures c.if-is_string.false c.is_view.ensures c.if-is_view.false c.is_list_view.ensures c.if-is_list_view.false c.is_list.ensures c.if-is_list.false c.requires.bound
