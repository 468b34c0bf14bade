-- `puts::put_number` meets its contract. Assumes nothing.
use native.Mathlib.Omega.{arith}
use mathlib.Core.Path.{sym}
use Rattle.room_writes.proofs.Laws.{alike_same, made, put_at, put_skip}
use lib.ListN.{length}
use Rattle.number.specs.Number.{encode}
use Rattle.number.proofs.Laws.{length_encode}
use Rattle.room_writes.proofs.put_number.Goals as goal

pub write_number-requires : goal.write_number-requires
write_number-requires c =
    let a = c.args in
    record { w_in_bounds = omega (arith, (made a.plan.now a.parts.now (length a.room.now) a.write a.i a.b a.o a.w c.target.ensures c.in-Some.is).within); w_value = c.requires.w_value }

pub returns-in-Some : goal.returns-in-Some
returns-in-Some c =
    let a = c.args in
    put_at a.plan.now a.parts.now a.write a.i a.b a.o (encode a.w a.v) a.room.now (omega arith) c.target.ensures c.in-Some.is (alike_same (sym (length_encode a.w a.v))) c.write_number.ensures

pub returns-in_default : goal.returns-in_default
returns-in_default c =
    let a = c.args in
    put_skip a.plan.now a.parts.now a.write a.i a.b a.o (encode a.w a.v) a.room.now (omega arith) c.target.ensures c.in_default.is (alike_same (sym (length_encode a.w a.v)))
