-- `width_loop::kinds::walk_string` meets its contract. Assumes nothing.
use mathlib.Core.Path.{refl}
use mathlib.Core.List.{[]}
use Prim.Native.Nat.{◌+◌}
use native.Mathlib.Omega.{arith}
use lib.ListN.{length}
use Rattle.array_data.specs.Tables.{place, second_buffer}
use Rattle.array_data.specs.entries.Entries.{column}
use Rattle.width_loop.proofs.Laws.{part_size}
use Rattle.width_loop.proofs.Own.{offsets_as, item_as, string_no, string_yes, rule_as, inside_as, offset_ok, base_below, last_below}
use Rattle.width_loop.proofs.kinds.walk_string.Goals as goal

pub put_offsets-g-requires : goal.put_offsets-g-requires
put_offsets-g-requires c =
    let a = c.args in
    let p = c.requires in
    let x = column [] a.places.now [] a.body.now a.first in
    record { i_bound = (omega arith, inside_as x a.i a.w a.s a.n (length (second_buffer x a.i)) p.offsets_rule c.place_at-at.ensures c.place_at-size.ensures p.i_bound.2, omega arith); w_value = p.w_value; by_index = ((length (second_buffer x a.i)), rule_as x a.i a.w a.s a.n (length (second_buffer x a.i)) p.offsets_rule c.place_at-at.ensures c.place_at-size.ensures) }

pub returns-then-g-ne0 : goal.returns-then-g-ne0
returns-then-g-ne0 c =
    let a = c.args in
    let x = column [] a.places.now [] a.body.now a.first in
    λ t t2 okay. string_no a.plan.now a.parts.now a.write a.room.now x a.i a.w a.w2 a.s a.n a.counters.now t t2 okay (offsets_as a.plan.now a.parts.now a.write a.room.now x a.i a.w a.w2 a.s a.n a.counters.now c.place_at-at.ensures c.place_at-size.ensures (c.put_offsets-g.ensures a.counters.now)) c.if-g-ne0.true

pub offset_at-base-requires : goal.offset_at-base-requires
offset_at-base-requires c =
    let a = c.args in
    let p = c.requires in
    let x = column [] a.places.now [] a.body.now a.first in
    record { size_in_bounds = (inside_as x a.i a.w a.s a.n (length (second_buffer x a.i)) p.offsets_rule c.place_at-at.ensures c.place_at-size.ensures p.i_bound.2, offset_ok x a.i a.w a.s a.n (length (second_buffer x a.i)) p.offsets_rule c.place_at-at.ensures c.place_at-size.ensures p.i_bound.2 a.s (omega arith)); w_value = p.w_value.0 }

pub offset_at-requires : goal.offset_at-requires
offset_at-requires c =
    let a = c.args in
    let p = c.requires in
    let x = column [] a.places.now [] a.body.now a.first in
    record { size_in_bounds = (inside_as x a.i a.w a.s a.n (length (second_buffer x a.i)) p.offsets_rule c.place_at-at.ensures c.place_at-size.ensures p.i_bound.2, offset_ok x a.i a.w a.s a.n (length (second_buffer x a.i)) p.offsets_rule c.place_at-at.ensures c.place_at-size.ensures p.i_bound.2 (a.s + a.n) (omega arith)); w_value = p.w_value.0 }

pub overflow_sub-span : goal.overflow_sub-span
overflow_sub-span c =
    let a = c.args in
    let p = c.requires in
    let x = column [] a.places.now [] a.body.now a.first in
    omega (arith, base_below x a.i a.w a.s a.n (length (second_buffer x a.i)) p.offsets_rule c.place_at-at.ensures c.place_at-size.ensures c.offset_at-base.ensures c.offset_at.ensures)

pub put_chars-requires : goal.put_chars-requires
put_chars-requires c =
    let a = c.args in
    let p = c.requires in
    let x = column [] a.places.now [] a.body.now a.first in
    (p.i_bound.0, omega (arith, p.i_bound.3, base_below x a.i a.w a.s a.n (length (second_buffer x a.i)) p.offsets_rule c.place_at-at.ensures c.place_at-size.ensures c.offset_at-base.ensures c.offset_at.ensures, last_below x a.i a.w a.s a.n (length (second_buffer x a.i)) p.offsets_rule c.place_at-at.ensures c.place_at-size.ensures c.offset_at.ensures, part_size a.body.now (place x a.i 5) (place x a.i 6) p.i_bound.3))

pub returns : goal.returns
returns c =
    let a = c.args in
    let p = c.requires in
    let x = column [] a.places.now [] a.body.now a.first in
    λ t t2 okay. string_yes a.plan.now a.parts.now a.write a.room.now x a.i a.w a.w2 a.s a.n a.counters.now t t2 okay p.offsets_rule p.i_bound.3 (offsets_as a.plan.now a.parts.now a.write a.room.now x a.i a.w a.w2 a.s a.n a.counters.now c.place_at-at.ensures c.place_at-size.ensures (c.put_offsets-g.ensures a.counters.now)) c.if-g-ne0.false (item_as a.plan.now a.parts.now a.write a.room.now x a.i a.w a.w2 a.s a.n a.counters.now a.s c.place_at-at.ensures c.place_at-size.ensures c.offset_at-base.ensures) (item_as a.plan.now a.parts.now a.write a.room.now x a.i a.w a.w2 a.s a.n a.counters.now (a.s + a.n) c.place_at-at.ensures c.place_at-size.ensures c.offset_at.ensures) refl c.put_chars.ensures.room_value c.put_chars.ensures.counters_value
