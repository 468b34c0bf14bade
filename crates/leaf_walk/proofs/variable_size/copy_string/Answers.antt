-- `string_walk::copy_string` meets its contract. Assumes nothing.
use mathlib.Core.List.{[]}
use Prim.Native.Nat.{◌+◌}
use native.Mathlib.Omega.{arith}
use Rattle.room_writes.proofs.Bytes.{width_in_lem}
use Rattle.leaf_walk.specs.Join.{join}
use Rattle.leaf_walk.proofs.Laws.{rows_in_lem}
use Rattle.leaf_walk.proofs.variable_size.Laws.{copy_none, copy_out, copy_in}
use Rattle.leaf_walk.proofs.variable_size.copy_string.Goals as goal

pub returns-then-n-eq0 : goal.returns-then-n-eq0
returns-then-n-eq0 c =
    let a = c.args in
    λ lengths source. copy_none (join a.plan.now a.parts.now lengths a.places.now a.body.now a.first source) a.i a.write a.counters.now a.room.now a.w a.slot a.n c.if-n-eq0.true

pub rows_in-requires : goal.rows_in-requires
rows_in-requires c =
    let a = c.args in
    omega (arith, width_in_lem a.w (λ p q. c.requires.w_value))

pub returns-then-not-rows_in : goal.returns-then-not-rows_in
returns-then-not-rows_in c =
    let a = c.args in
    λ lengths source. copy_out (join a.plan.now a.parts.now lengths a.places.now a.body.now a.first source) a.i a.write a.counters.now a.room.now a.w a.slot a.n c.if-n-eq0.false c.place-at.ensures (c.rows_in.ensures a.plan.now a.parts.now lengths a.places.now a.first source) c.if-not-rows_in.true-raw

pub overflow_mul-from : goal.overflow_mul-from
overflow_mul-from c =
    let a = c.args in
    omega (arith, rows_in_lem (join [] [] [] [] a.body.now 0 0) c.place-at.result a.w a.slot (a.n + 1) (c.rows_in.ensures [] [] [] [] 0 0) c.if-not-rows_in.false-raw)

pub overflow_add-from : goal.overflow_add-from
overflow_add-from c =
    let a = c.args in
    omega (arith, rows_in_lem (join [] [] [] [] a.body.now 0 0) c.place-at.result a.w a.slot (a.n + 1) (c.rows_in.ensures [] [] [] [] 0 0) c.if-not-rows_in.false-raw)

pub put_extended-requires : goal.put_extended-requires
put_extended-requires c =
    let a = c.args in
    record { first_bound = (c.requires.first_bound.0, c.requires.first_bound.1, omega (arith, rows_in_lem (join [] [] [] [] a.body.now 0 0) c.place-at.result a.w a.slot (a.n + 1) (c.rows_in.ensures [] [] [] [] 0 0) c.if-not-rows_in.false-raw)); w_value = c.requires.w_value }

pub returns : goal.returns
returns c =
    let a = c.args in
    λ lengths source. copy_in (join a.plan.now a.parts.now lengths a.places.now a.body.now a.first source) a.i a.write a.counters.now a.room.now a.w a.slot a.n c.if-n-eq0.false c.place-at.ensures (c.rows_in.ensures a.plan.now a.parts.now lengths a.places.now a.first source) c.if-not-rows_in.false-raw (c.put_extended.ensures lengths source)
