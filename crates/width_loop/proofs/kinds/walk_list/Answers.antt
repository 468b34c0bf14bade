-- `width_loop::kinds::walk_list` meets its contract. Assumes nothing.
use mathlib.Core.List.{[]}
use Prim.Native.Nat.{◌+◌}
use native.Mathlib.Omega.{arith}
use Rattle.array_data.specs.entries.Entries.{column}
use Rattle.width_loop.proofs.Own.{did_zero, offsets_as, item_as, list_settles, rule_as, inside_as, offset_ok, base_below}
use Rattle.width_loop.proofs.kinds.walk_list.Goals as goal

pub put_offsets-g-requires : goal.put_offsets-g-requires
put_offsets-g-requires c =
    let a = c.args in
    let p = c.requires in
    let x = column [] a.places.now [] a.body.now a.first in
    record { i_bound = (omega arith, inside_as x a.i a.w a.s a.n p.by_index.0 p.by_index.1 c.place_at-at.ensures c.place_at-size.ensures p.i_bound.2, omega arith); w_value = p.w_value; by_index = (p.by_index.0, rule_as x a.i a.w a.s a.n p.by_index.0 p.by_index.1 c.place_at-at.ensures c.place_at-size.ensures) }

pub returns-then-g-ne0 : goal.returns-then-g-ne0
returns-then-g-ne0 c =
    let a = c.args in
    let x = column [] a.places.now [] a.body.now a.first in
    record { any_tree = (λ t t2 okay d. offsets_as a.plan.now a.parts.now a.write a.room.now x a.i a.w a.w2 a.s a.n d c.place_at-at.ensures c.place_at-size.ensures (c.put_offsets-g.ensures d)); ranges_value = λ t t2 z. absurd (c.if-g-ne0.true z) }

pub offset_at-base-requires : goal.offset_at-base-requires
offset_at-base-requires c =
    let a = c.args in
    let p = c.requires in
    let x = column [] a.places.now [] a.body.now a.first in
    record { size_in_bounds = (inside_as x a.i a.w a.s a.n p.by_index.0 p.by_index.1 c.place_at-at.ensures c.place_at-size.ensures p.i_bound.2, offset_ok x a.i a.w a.s a.n p.by_index.0 p.by_index.1 c.place_at-at.ensures c.place_at-size.ensures p.i_bound.2 a.s (omega arith)); w_value = p.w_value.0 }

pub offset_at-requires : goal.offset_at-requires
offset_at-requires c =
    let a = c.args in
    let p = c.requires in
    let x = column [] a.places.now [] a.body.now a.first in
    record { size_in_bounds = (inside_as x a.i a.w a.s a.n p.by_index.0 p.by_index.1 c.place_at-at.ensures c.place_at-size.ensures p.i_bound.2, offset_ok x a.i a.w a.s a.n p.by_index.0 p.by_index.1 c.place_at-at.ensures c.place_at-size.ensures p.i_bound.2 (a.s + a.n) (omega arith)); w_value = p.w_value.0 }

pub overflow_sub-span : goal.overflow_sub-span
overflow_sub-span c =
    let a = c.args in
    let p = c.requires in
    let x = column [] a.places.now [] a.body.now a.first in
    omega (arith, base_below x a.i a.w a.s a.n p.by_index.0 p.by_index.1 c.place_at-at.ensures c.place_at-size.ensures c.offset_at-base.ensures c.offset_at.ensures)

pub returns : goal.returns
returns c =
    let a = c.args in
    let x = column [] a.places.now [] a.body.now a.first in
    record { any_tree = (λ t t2 okay d. did_zero c.if-g-ne0.false (offsets_as a.plan.now a.parts.now a.write a.room.now x a.i a.w a.w2 a.s a.n d c.place_at-at.ensures c.place_at-size.ensures (c.put_offsets-g.ensures d))); ranges_value = λ t t2 z. list_settles t t2 x a.plan.now a.i a.w a.s a.n a.ranges.now (item_as a.plan.now a.parts.now a.write a.room.now x a.i a.w a.w2 a.s a.n [] a.s c.place_at-at.ensures c.place_at-size.ensures c.offset_at-base.ensures) (item_as a.plan.now a.parts.now a.write a.room.now x a.i a.w a.w2 a.s a.n [] (a.s + a.n) c.place_at-at.ensures c.place_at-size.ensures c.offset_at.ensures) c.set_range.ensures }
