-- `leaf_walk::copy_views` meets its contract. Assumes nothing.
use mathlib.Core.List.{[]}
use native.Mathlib.Omega.{arith}
use Rattle.walk.specs.Leaves.{copy_views}
use Rattle.leaf_walk.specs.Join.{join}
use Rattle.leaf_walk.proofs.Laws.{rows_in_lem, entries_no, entries_yes}
use Prim.Native.Nat.{◌+◌, ◌*◌}
use Rattle.utils.specs.byte_view.View.{reviewed}
use Rattle.leaf_walk.proofs.copy_views.Goals as goal

pub returns-then-not-rows_in : goal.returns-then-not-rows_in
unfolding copy_views
returns-then-not-rows_in c =
    let a = c.args in
    λ lengths. entries_no (join a.plan.now a.parts.now lengths a.places.now a.body.now a.first a.source) a.i a.write a.counters.now a.room.now (16) a.slot a.n _ c.place-at.ensures (c.rows_in.ensures a.plan.now a.parts.now lengths a.places.now a.first a.source) c.if-not-rows_in.true-raw

pub overflow_mul-from : goal.overflow_mul-from
overflow_mul-from c =
    let a = c.args in
    omega (arith, rows_in_lem (join [] [] [] [] a.body.now 0 0) c.place-at.result (16) a.slot a.n (c.rows_in.ensures [] [] [] [] 0 0) c.if-not-rows_in.false-raw)

pub overflow_add-from : goal.overflow_add-from
overflow_add-from c =
    let a = c.args in
    omega (arith, rows_in_lem (join [] [] [] [] a.body.now 0 0) c.place-at.result (16) a.slot a.n (c.rows_in.ensures [] [] [] [] 0 0) c.if-not-rows_in.false-raw)

pub put_views-requires : goal.put_views-requires
put_views-requires c =
    let a = c.args in
    omega (arith, rows_in_lem (join [] [] [] [] a.body.now 0 0) c.place-at.result (16) a.slot a.n (c.rows_in.ensures [] [] [] [] 0 0) c.if-not-rows_in.false-raw)

pub returns : goal.returns
unfolding copy_views
returns c =
    let a = c.args in
    λ lengths. entries_yes (join a.plan.now a.parts.now lengths a.places.now a.body.now a.first a.source) a.i a.write a.counters.now a.room.now (16) a.slot a.n (λ at base. reviewed a.body.now (at + 16 * a.slot) base a.n) c.place-at.ensures c.base_of-base.ensures (c.rows_in.ensures a.plan.now a.parts.now lengths a.places.now a.first a.source) c.if-not-rows_in.false-raw c.rows_of.ensures c.scale-o.ensures (omega (arith, c.well_formed)) c.put_views.ensures
