-- `survey::put_lands` meets its contract. Assumes nothing.
use Prim.Native.Nat.{ℕ, ◌+◌}
use native.Mathlib.Omega.{arith}
use lib.ListN.{length}
use Rattle.utils.specs.Pieces.{numbers}
use Rattle.utils.proofs.Pieces.{length_numbers}
use Rattle.room_writes.proofs.Laws.{alike_sized, made, put_at, put_skip, times_within}
use Rattle.walk.specs.State.{scaled}
use Rattle.batch.specs.batch_walk.Fall.{home_by, lands_by}
use Rattle.batch.proofs.survey.put_lands.Goals as goal

pub write_lands-requires : goal.write_lands-requires
write_lands-requires c =
    let a = c.args in
    (times_within a.n 4 (made a.plan.now a.parts.now (length a.room.now) a.write a.i 2 a.o (scaled a.n 4) (rw c.scale.ensures at c.target.ensures) c.in-Some.is) (omega arith), c.requires.1, c.requires.2, c.requires.3)

pub returns-in-Some : goal.returns-in-Some
returns-in-Some c =
    let a = c.args in
    let g : ℕ → ℕ = lands_by (λ r. home_by a.homes.now a.body.now (a.ids + (a.slot + r))) a.counters.now in
    put_at a.plan.now a.parts.now a.write a.i 2 a.o (numbers 4 g a.n) a.room.now (omega arith) (rw c.scale.ensures at c.target.ensures) c.in-Some.is (alike_sized a.n 4 (length_numbers 4 g a.n)) c.write_lands.ensures

pub returns-in_default : goal.returns-in_default
returns-in_default c =
    let a = c.args in
    let g : ℕ → ℕ = lands_by (λ r. home_by a.homes.now a.body.now (a.ids + (a.slot + r))) a.counters.now in
    put_skip a.plan.now a.parts.now a.write a.i 2 a.o (numbers 4 g a.n) a.room.now (omega arith) (rw c.scale.ensures at c.target.ensures) c.in_default.is (alike_sized a.n 4 (length_numbers 4 g a.n))
