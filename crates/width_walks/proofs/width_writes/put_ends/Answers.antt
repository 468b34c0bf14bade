-- `width_writes::put_ends` meets its contract. Assumes nothing.
use native.Mathlib.Omega.{arith}
use mathlib.Core.List.{◌++◌}
use Prim.Native.Nat.{◌-◌}
use lib.ListN.{length}
use Rattle.number.specs.Number.{encode}
use Rattle.walk.specs.State.{scaled}
use Rattle.room_writes.proofs.Laws.{alike_sized, made, put_at, put_skip, times_within}
use Rattle.room_writes.proofs.Bytes.{width_in_lem}
use Rattle.recode.specs.Recode.{lessened}
use Rattle.width_walks.proofs.width_writes.Sizes.{length_ends}
use Rattle.width_walks.proofs.width_writes.put_ends.Goals as goal

pub scale-size-requires : goal.scale-size-requires
scale-size-requires c = width_in_lem c.args.w2 (λ p. c.requires.w2_value)

pub write_ends-requires : goal.write_ends-requires
write_ends-requires c =
    let a = c.args in
    let room = times_within a.m a.w2 (made a.plan.now a.parts.now (length a.room.now) a.write a.i a.b 0 (scaled a.m a.w2) (rw c.scale-size.ensures at c.target.ensures) c.in-Some.is) (omega arith) in
    record { le_m = (c.requires.i_bound.2, room, omega arith); w_value = c.requires.w_value; w2_value = c.requires.w2_value }

pub returns-in-Some : goal.returns-in-Some
returns-in-Some c =
    let a = c.args in
    put_at a.plan.now a.parts.now a.write a.i a.b 0 (lessened a.w a.w2 a.body.now a.from a.base (a.m - 1) ++ encode a.w2 a.last) a.room.now (omega arith) (rw c.scale-size.ensures at c.target.ensures) c.in-Some.is (alike_sized a.m a.w2 (length_ends a.w a.w2 a.body.now a.from a.base a.last a.m c.requires.i_bound.2)) c.write_ends.ensures

pub returns-in_default : goal.returns-in_default
returns-in_default c =
    let a = c.args in
    put_skip a.plan.now a.parts.now a.write a.i a.b 0 (lessened a.w a.w2 a.body.now a.from a.base (a.m - 1) ++ encode a.w2 a.last) a.room.now (omega arith) (rw c.scale-size.ensures at c.target.ensures) c.in_default.is (alike_sized a.m a.w2 (length_ends a.w a.w2 a.body.now a.from a.base a.last a.m c.requires.i_bound.2))
