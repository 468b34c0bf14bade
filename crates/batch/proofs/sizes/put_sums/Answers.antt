-- `batch_walk::sizes::put_sums` meets its contract. Assumes nothing.
use Prim.Native.Nat.{ℕ, ◌+◌}
use native.Mathlib.Omega.{arith}
use lib.ListN.{length}
use Rattle.number.specs.Number.{entry}
use Rattle.utils.specs.Pieces.{numbers}
use Rattle.utils.proofs.Pieces.{length_numbers}
use Rattle.room_writes.proofs.Laws.{alike_sized, made, put_at, put_skip, times_within}
use Rattle.room_writes.proofs.Bytes.{width_in_lem}
use Rattle.walk.specs.State.{scaled}
use Rattle.batch.specs.Stretch.{sum_of}
use Rattle.batch.proofs.sizes.put_sums.Goals as goal

pub write_sums-requires : goal.write_sums-requires
write_sums-requires c =
    let a = c.args in
    record { n_in_bounds = (times_within a.n a.w (made a.plan.now a.parts.now (length a.room.now) a.write a.i 1 a.o (scaled a.n a.w) (rw c.scale.ensures at c.target.ensures) c.in-Some.is) (omega arith), c.requires.i_bound.1, c.requires.i_bound.2, c.requires.i_bound.3); w_value = c.requires.w_value }

pub returns-in-Some : goal.returns-in-Some
returns-in-Some c =
    let a = c.args in
    let g : ℕ → ℕ = λ r. a.rows + sum_of (λ q. entry a.w a.body.now a.at (a.slot + q)) r in
    put_at a.plan.now a.parts.now a.write a.i 1 a.o (numbers a.w g a.n) a.room.now (omega arith) (rw c.scale.ensures at c.target.ensures) c.in-Some.is (alike_sized a.n a.w (length_numbers a.w g a.n)) c.write_sums.ensures

pub returns-in_default : goal.returns-in_default
returns-in_default c =
    let a = c.args in
    let g : ℕ → ℕ = λ r. a.rows + sum_of (λ q. entry a.w a.body.now a.at (a.slot + q)) r in
    put_skip a.plan.now a.parts.now a.write a.i 1 a.o (numbers a.w g a.n) a.room.now (omega arith) (rw c.scale.ensures at c.target.ensures) c.in_default.is (alike_sized a.n a.w (length_numbers a.w g a.n))
