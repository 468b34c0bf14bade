-- `leaf_walk::copy_numbers` meets its contract. Assumes nothing.
use mathlib.Core.List.{[]}
use native.Mathlib.Omega.{arith}
use Rattle.walk.specs.Leaves.{copy_numbers}
use Rattle.leaf_walk.specs.Join.{join}
use Rattle.leaf_walk.proofs.Laws.{rows_in_lem, entries_no, entries_yes, zero_same}
use Prim.Native.Nat.{◌+◌, ◌*◌}
use lib.ListN.{take, drop}
use Rattle.leaf_walk.proofs.copy_numbers.Goals as goal

pub returns-then-not-rows_in : goal.returns-then-not-rows_in
unfolding copy_numbers
returns-then-not-rows_in c =
    let a = c.args in
    λ lengths source. entries_no (join a.plan.now a.parts.now lengths a.places.now a.body.now a.first source) a.i a.write a.counters.now a.room.now a.w a.slot a.n _ c.place-at.ensures (c.rows_in.ensures a.plan.now a.parts.now lengths a.places.now a.first source) c.if-not-rows_in.true-raw

pub overflow_mul-from : goal.overflow_mul-from
overflow_mul-from c =
    let a = c.args in
    omega (arith, rows_in_lem (join [] [] [] [] a.body.now 0 0) c.place-at.result a.w a.slot a.n (c.rows_in.ensures [] [] [] [] 0 0) c.if-not-rows_in.false-raw)

pub overflow_add-from : goal.overflow_add-from
overflow_add-from c =
    let a = c.args in
    omega (arith, rows_in_lem (join [] [] [] [] a.body.now 0 0) c.place-at.result a.w a.slot a.n (c.rows_in.ensures [] [] [] [] 0 0) c.if-not-rows_in.false-raw)

pub overflow_mul-w : goal.overflow_mul-w
overflow_mul-w c =
    let a = c.args in
    omega (arith, rows_in_lem (join [] [] [] [] a.body.now 0 0) c.place-at.result a.w a.slot a.n (c.rows_in.ensures [] [] [] [] 0 0) c.if-not-rows_in.false-raw)

pub put_copy-requires : goal.put_copy-requires
put_copy-requires c =
    let a = c.args in
    omega (arith, rows_in_lem (join [] [] [] [] a.body.now 0 0) c.place-at.result a.w a.slot a.n (c.rows_in.ensures [] [] [] [] 0 0) c.if-not-rows_in.false-raw)

pub returns : goal.returns
unfolding copy_numbers
returns c =
    let a = c.args in
    λ lengths source. entries_yes (join a.plan.now a.parts.now lengths a.places.now a.body.now a.first source) a.i a.write a.counters.now a.room.now a.w a.slot a.n (λ at base. take (a.w * a.n) (drop (at + a.w * a.slot) a.body.now)) c.place-at.ensures zero_same (c.rows_in.ensures a.plan.now a.parts.now lengths a.places.now a.first source) c.if-not-rows_in.false-raw c.rows_of.ensures c.scale-o.ensures (omega (arith, c.well_formed)) c.put_copy.ensures
