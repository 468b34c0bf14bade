-- `width_writes::put_less` meets its contract. Assumes nothing.
use native.Mathlib.Omega.{arith}
use lib.ListN.{length}
use Rattle.walk.specs.State.{scaled}
use Rattle.room_writes.proofs.Laws.{alike_sized, made, put_at, put_skip, times_within}
use Rattle.room_writes.proofs.Bytes.{width_in_lem}
use Rattle.recode.specs.Recode.{lessened}
use Rattle.width_walks.proofs.width_writes.Sizes.{length_less}
use Rattle.width_walks.proofs.width_writes.put_less.Goals as goal

pub scale-size-requires : goal.scale-size-requires
scale-size-requires c = width_in_lem c.args.w2 (λ p. c.requires.w2_value)

pub recode_less-requires : goal.recode_less-requires
recode_less-requires c =
    let a = c.args in
    let room = times_within a.n a.w2 (made a.plan.now a.parts.now (length a.room.now) a.write a.i a.b 0 (scaled a.n a.w2) (rw c.scale-size.ensures at c.target.ensures) c.in-Some.is) (omega arith) in
    record { n_in_bounds = (room, omega arith); w_value = λ p. c.requires.w_value; w2_value = λ p. c.requires.w2_value }

pub returns-in-Some : goal.returns-in-Some
returns-in-Some c =
    let a = c.args in
    put_at a.plan.now a.parts.now a.write a.i a.b 0 (lessened a.w a.w2 a.body.now a.from a.base a.n) a.room.now (omega arith) (rw c.scale-size.ensures at c.target.ensures) c.in-Some.is (alike_sized a.n a.w2 (length_less a.w a.w2 a.body.now a.from a.n a.base)) c.recode_less.ensures

pub returns-in_default : goal.returns-in_default
returns-in_default c =
    let a = c.args in
    put_skip a.plan.now a.parts.now a.write a.i a.b 0 (lessened a.w a.w2 a.body.now a.from a.base a.n) a.room.now (omega arith) (rw c.scale-size.ensures at c.target.ensures) c.in_default.is (alike_sized a.n a.w2 (length_less a.w a.w2 a.body.now a.from a.n a.base))
