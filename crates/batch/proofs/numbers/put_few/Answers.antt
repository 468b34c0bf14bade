-- `batch_walk::numbers::put_few` meets its contract. Assumes nothing.
use mathlib.Core.Path.{sym}
use native.Mathlib.Omega.{arith}
use lib.ListN.{length, take, drop}
use Rattle.room_writes.proofs.Laws.{alike_same, made, put_at, put_skip}
use Rattle.room_writes.proofs.Bytes.{length_copied}
use Rattle.batch.proofs.numbers.put_few.Goals as goal

pub copy_few-requires : goal.copy_few-requires
copy_few-requires c =
    let a = c.args in
    omega (arith, (made a.plan.now a.parts.now (length a.room.now) a.write a.k 1 a.o a.n c.target.ensures c.in-Some.is).within)

pub returns-in-Some : goal.returns-in-Some
returns-in-Some c =
    let a = c.args in
    put_at a.plan.now a.parts.now a.write a.k 1 a.o (take a.n (drop a.from a.body.now)) a.room.now (omega arith) c.target.ensures c.in-Some.is (alike_same (sym (length_copied a.body.now a.from a.n (omega arith)))) c.copy_few.ensures

pub returns-in_default : goal.returns-in_default
returns-in_default c =
    let a = c.args in
    put_skip a.plan.now a.parts.now a.write a.k 1 a.o (take a.n (drop a.from a.body.now)) a.room.now (omega arith) c.target.ensures c.in_default.is (alike_same (sym (length_copied a.body.now a.from a.n (omega arith))))
