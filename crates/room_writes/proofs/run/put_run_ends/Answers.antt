-- `puts::put_run_ends` meets its contract. Assumes nothing.
use native.Mathlib.Omega.{arith}
use Rattle.room_writes.proofs.Laws.{alike_sized, made, put_at, put_skip, times_within}
use lib.ListN.{length}
use Rattle.run_ends.specs.Clip.{clipped}
use Rattle.run_ends.proofs.Laws.{length_clipped}
use Rattle.walk.specs.State.{scaled}
use Rattle.room_writes.proofs.run.put_run_ends.Goals as goal

pub write_run_ends-requires : goal.write_run_ends-requires
write_run_ends-requires c =
    let a = c.args in
    record { n_in_bounds = (omega (arith, times_within a.n a.w (made a.plan.now a.parts.now (length a.room.now) a.write a.i a.b a.o (scaled a.n a.w) (rw c.scale.ensures at c.target.ensures) c.in-Some.is) (omega arith)), omega arith, c.requires.i_bound.3); w_value = c.requires.w_value }

pub returns-in-Some : goal.returns-in-Some
returns-in-Some c =
    let a = c.args in
    put_at a.plan.now a.parts.now a.write a.i a.b a.o (clipped a.w a.body.now a.from a.n a.start.0 a.end.0 a.last) a.room.now (omega arith) (rw c.scale.ensures at c.target.ensures) c.in-Some.is (alike_sized a.n a.w (length_clipped a.w a.body.now a.from a.start.0 a.end.0 a.last a.n)) c.write_run_ends.ensures

pub returns-in_default : goal.returns-in_default
returns-in_default c =
    let a = c.args in
    put_skip a.plan.now a.parts.now a.write a.i a.b a.o (clipped a.w a.body.now a.from a.n a.start.0 a.end.0 a.last) a.room.now (omega arith) (rw c.scale.ensures at c.target.ensures) c.in_default.is (alike_sized a.n a.w (length_clipped a.w a.body.now a.from a.start.0 a.end.0 a.last a.n))
