-- `puts::put_same` meets its contract. Assumes nothing.
use native.Mathlib.Omega.{arith}
use mathlib.Core.Path.{sym}
use Rattle.room_writes.proofs.Laws.{alike_same, made, put_at, put_skip}
use lib.ListN.{length, replicate, length-replicate}
use Rattle.room_writes.proofs.put_same.Goals as goal

pub fill_bytes-requires : goal.fill_bytes-requires
fill_bytes-requires c =
    let a = c.args in
    omega (arith, (made a.plan.now a.parts.now (length a.room.now) a.write a.i a.b a.o a.n c.target.ensures c.in-Some.is).within)

pub returns-in-Some : goal.returns-in-Some
returns-in-Some c =
    let a = c.args in
    put_at a.plan.now a.parts.now a.write a.i a.b a.o (replicate a.n a.v) a.room.now (omega arith) c.target.ensures c.in-Some.is (alike_same (sym (length-replicate a.n a.v))) c.fill_bytes.ensures

pub returns-in_default : goal.returns-in_default
returns-in_default c =
    let a = c.args in
    put_skip a.plan.now a.parts.now a.write a.i a.b a.o (replicate a.n a.v) a.room.now (omega arith) c.target.ensures c.in_default.is (alike_same (sym (length-replicate a.n a.v)))
