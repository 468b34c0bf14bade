-- `puts::put_offsets` meets its contract. Assumes nothing.
use native.Mathlib.Omega.{arith}
use Rattle.room_writes.proofs.Laws.{alike_sized, made, put_at, put_skip, times_within}
use lib.ListN.{length}
use Rattle.utils.specs.Offsets.{moved_offsets}
use Rattle.room_writes.proofs.Bytes.{length_moved}
use Rattle.walk.specs.State.{scaled}
use Rattle.room_writes.proofs.variable_size.put_offsets.Goals as goal

pub write_offsets-requires : goal.write_offsets-requires
write_offsets-requires c =
    let a = c.args in
    record { n_in_bounds = (omega (arith, times_within a.n a.w (made a.plan.now a.parts.now (length a.room.now) a.write a.i a.b a.o (scaled a.n a.w) (rw c.scale.ensures at c.target.ensures) c.in-Some.is) (omega arith)), omega arith); w_value = c.requires.w_value }

pub returns-in-Some : goal.returns-in-Some
returns-in-Some c =
    let a = c.args in
    put_at a.plan.now a.parts.now a.write a.i a.b a.o (moved_offsets a.w a.body.now a.from a.last a.n) a.room.now (omega arith) (rw c.scale.ensures at c.target.ensures) c.in-Some.is (alike_sized a.n a.w (length_moved a.w a.body.now a.from a.last a.n)) c.write_offsets.ensures

pub returns-in_default : goal.returns-in_default
returns-in_default c =
    let a = c.args in
    put_skip a.plan.now a.parts.now a.write a.i a.b a.o (moved_offsets a.w a.body.now a.from a.last a.n) a.room.now (omega arith) (rw c.scale.ensures at c.target.ensures) c.in_default.is (alike_sized a.n a.w (length_moved a.w a.body.now a.from a.last a.n))
