-- `puts::put_null_bits` meets its contract. Assumes nothing.
use native.Mathlib.Omega.{arith}
use Rattle.room_writes.proofs.Laws.{mask_made, mask_at_lem, mask_skip}
use lib.ListN.{length, replicate, length-replicate}
use Rattle.room_writes.proofs.validity.put_null_bits.Goals as goal

pub append_zeros-requires : goal.append_zeros-requires
append_zeros-requires c =
    let a = c.args in
    let d = mask_made a.plan.now a.parts.now (length a.room.now) a.write a.i a.p a.n c.mask_target.ensures c.in-Some.is in
    omega (arith, d.0.within, d.1)

pub returns-in-Some : goal.returns-in-Some
returns-in-Some c =
    let a = c.args in
    mask_at_lem a.plan.now a.parts.now a.write a.i a.p a.n (replicate a.n 0) a.room.now c.mask_target.ensures c.in-Some.is (length-replicate a.n 0) c.append_zeros.ensures

pub returns-in_default : goal.returns-in_default
returns-in_default c =
    let a = c.args in
    mask_skip a.plan.now a.parts.now a.write a.i a.p a.n (replicate a.n 0) a.room.now c.mask_target.ensures c.in_default.is (length-replicate a.n 0)
