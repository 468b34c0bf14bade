-- `homes::homes_of` meets its contract. Assumes nothing.
use mathlib.Core.Path.{refl}
use Prim.Native.Nat.{◌+◌, ◌-◌}
use native.Mathlib.Omega.{arith}
use Rattle.nested_rows.proofs.lookups.Laws.{child_none}
use Rattle.batch.proofs.batch_walk.Homes.{homing_none, homing_more, homed, child_zero}
use Rattle.batch.proofs.homes.homes_of.Goals as goal

pub returns-then-end-k : goal.returns-then-end-k
returns-then-end-k c =
    let a = c.args in
    let l = c.loop-t in
    homed a.plan.now a.i l.t l.k l.homes c.end_of-end.ensures.value l.invariant (λ id. child_none a.plan.now c.end_of-end.result l.k id (32 - l.t) c.if-end-k.true)

pub loop-t-preserved : goal.loop-t-preserved
loop-t-preserved c =
    let l = c.loop-t in
    homing_more c.args.plan.now c.end_of-end.result (c.args.i + 1) l.t l.k l.homes l.invariant (omega arith) (omega arith) (omega arith) c.id_of-id.ensures c.end_of-k.ensures.value refl (omega arith) c.first_of.ensures

pub returns : goal.returns
returns c =
    let a = c.args in
    let l = c.loop-t in
    homed a.plan.now a.i l.t l.k l.homes c.end_of-end.ensures.value l.invariant (λ id. child_zero a.plan.now id c.end_of-end.result (32 - l.t) l.k (omega arith))

pub loop-t-init : goal.loop-t-init
loop-t-init c = homing_none c.args.plan.now c.end_of-end.result (c.args.i + 1)
