-- `puts::put_mask` meets its contract. Assumes nothing.
use native.Mathlib.Omega.{arith}
use Rattle.room_writes.proofs.Laws.{mask_made, mask_at_lem, mask_skip}
use Prim.Native.Nat.{◌+◌, ◌*◌}
use lib.ListN.{length}
use Rattle.bits.specs.Bits.{bits_at}
use Rattle.bits.proofs.Puts.{length_bits_at}
use Rattle.room_writes.proofs.validity.put_mask.Goals as goal

pub copy_bits-requires : goal.copy_bits-requires
copy_bits-requires c =
    let a = c.args in
    let d = mask_made a.plan.now a.parts.now (length a.room.now) a.write a.i a.p a.n c.mask_target.ensures c.in-Some.is in
    omega (arith, d.0.within, d.1)

pub returns-in-Some : goal.returns-in-Some
returns-in-Some c =
    let a = c.args in
    record { room_after = mask_at_lem a.plan.now a.parts.now a.write a.i a.p a.n (bits_at (8 * a.from + a.a) a.n a.body.now) a.room.now c.mask_target.ensures c.in-Some.is (length_bits_at (8 * a.from + a.a) a.n a.body.now (omega arith)) c.copy_bits.ensures.room_after; value = c.copy_bits.ensures.value }

pub returns-in-None : goal.returns-in-None
returns-in-None c =
    let a = c.args in
    record { room_after = mask_skip a.plan.now a.parts.now a.write a.i a.p a.n (bits_at (8 * a.from + a.a) a.n a.body.now) a.room.now c.mask_target.ensures c.in-None.is (length_bits_at (8 * a.from + a.a) a.n a.body.now (omega arith)); value = c.count_zeros.ensures }
