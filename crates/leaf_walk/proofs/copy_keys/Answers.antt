-- `leaf_walk::copy_keys` meets its contract. Assumes nothing.
use mathlib.Core.List.{[]}
use native.Mathlib.Omega.{arith}
use Rattle.walk.specs.Leaves.{copy_keys}
use Rattle.leaf_walk.specs.Join.{join}
use Rattle.leaf_walk.proofs.Laws.{rows_in_lem, entries_no, entries_yes}
use Prim.Native.Nat.{◌+◌, ◌*◌}
use Rattle.utils.specs.primitive.Primitive.{rebased}
use Rattle.room_writes.proofs.Bytes.{width_in_lem}
use Rattle.leaf_walk.proofs.copy_keys.Goals as goal

pub rows_in-requires : goal.rows_in-requires
rows_in-requires c =
    let a = c.args in
    omega (arith, width_in_lem a.w c.requires.w_value)

pub returns-then-not-rows_in : goal.returns-then-not-rows_in
unfolding copy_keys
returns-then-not-rows_in c =
    let a = c.args in
    λ lengths. entries_no (join a.plan.now a.parts.now lengths a.places.now a.body.now a.first a.source) a.i a.write a.counters.now a.room.now a.w a.slot a.n _ c.place-at.ensures (c.rows_in.ensures a.plan.now a.parts.now lengths a.places.now a.first a.source) c.if-not-rows_in.true-raw

pub scale-o-requires : goal.scale-o-requires
scale-o-requires c =
    let a = c.args in
    width_in_lem a.w c.requires.w_value

pub overflow_mul-from : goal.overflow_mul-from
overflow_mul-from c =
    let a = c.args in
    omega (arith, rows_in_lem (join [] [] [] [] a.body.now 0 0) c.place-at.result a.w a.slot a.n (c.rows_in.ensures [] [] [] [] 0 0) c.if-not-rows_in.false-raw)

pub overflow_add-from : goal.overflow_add-from
overflow_add-from c =
    let a = c.args in
    omega (arith, rows_in_lem (join [] [] [] [] a.body.now 0 0) c.place-at.result a.w a.slot a.n (c.rows_in.ensures [] [] [] [] 0 0) c.if-not-rows_in.false-raw)

pub put_keys-requires : goal.put_keys-requires
put_keys-requires c =
    let a = c.args in
    record { i_bound = omega (arith, rows_in_lem (join [] [] [] [] a.body.now 0 0) c.place-at.result a.w a.slot a.n (c.rows_in.ensures [] [] [] [] 0 0) c.if-not-rows_in.false-raw); w_value = c.requires.w_value; w_value_2 = c.requires.w_value_2 }

pub returns : goal.returns
unfolding copy_keys
returns c =
    let a = c.args in
    λ lengths. entries_yes (join a.plan.now a.parts.now lengths a.places.now a.body.now a.first a.source) a.i a.write a.counters.now a.room.now a.w a.slot a.n (λ at base. rebased a.w a.body.now (at + a.w * a.slot) base a.n) c.place-at.ensures c.base_of-base.ensures (c.rows_in.ensures a.plan.now a.parts.now lengths a.places.now a.first a.source) c.if-not-rows_in.false-raw c.rows_of.ensures c.scale-o.ensures (omega (arith, c.well_formed)) c.put_keys.ensures
