-- `transform::numbers::put_bytes` meets its contract. Assumes nothing.
use mathlib.Core.Path.{ap}
use Prim.Native.Nat.{ℕ, ◌+◌}
use native.Mathlib.Omega.{arith}
use lib.ListN.{take, drop}
use Rattle.room_writes.proofs.Bytes.{length_copied}
use Rattle.transform.proofs.numbers.Laws.{start_one, put_known}
use Rattle.transform.proofs.numbers.put_bytes.Goals as goal

pub overflow_add-start : goal.overflow_add-start
overflow_add-start c =
    let a = c.args in
    omega (arith, c.requires.2, start_one a.plan.now a.parts.now a.i c.part_of.ensures.value c.at_u64-start.ensures, c.well_formed)

pub copy_bytes-requires : goal.copy_bytes-requires
copy_bytes-requires c =
    let a = c.args in
    record { n_in_bounds = omega (arith, c.requires.1, c.requires.2, start_one a.plan.now a.parts.now a.i c.part_of.ensures.value c.at_u64-start.ensures); n_in_bounds_2 = omega (arith, c.requires.1, c.requires.2, start_one a.plan.now a.parts.now a.i c.part_of.ensures.value c.at_u64-start.ensures) }

pub returns : goal.returns
returns c =
    let a = c.args in
    let s = start_one a.plan.now a.parts.now a.i c.part_of.ensures.value c.at_u64-start.ensures in
    put_known a.plan.now a.parts.now a.i a.o (take a.n (drop a.from a.body.now)) a.room.now (omega (arith, c.requires.2, length_copied a.body.now a.from a.n c.requires.1)) (ap (λ (z : ℕ). z + a.o) s) c.copy_bytes.ensures
