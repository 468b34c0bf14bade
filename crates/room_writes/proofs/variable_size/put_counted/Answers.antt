-- `puts::put_counted` meets its contract. Assumes nothing.
use native.Mathlib.Omega.{arith}
use mathlib.Core.Path.{ap, ◌∙◌}
use mathlib.Core.List.{List}
use Prim.Native.Nat.{ℕ}
use Rattle.room_writes.proofs.Laws.{alike_sized, made, put_at, put_skip, times_within}
use lib.ListN.{length}
use Rattle.number.specs.Number.{splice}
use Rattle.utils.specs.Offsets.{counted_up}
use Rattle.room_writes.proofs.Bytes.{length_counted, counted_cut}
use Rattle.walk.specs.State.{scaled}
use Rattle.room_writes.proofs.variable_size.put_counted.Goals as goal

pub count_up_i32-requires : goal.count_up_i32-requires
count_up_i32-requires c =
    let a = c.args in
    omega (arith, times_within a.n (4) (made a.plan.now a.parts.now (length a.room.now) a.write a.i a.b a.o (scaled a.n (4)) (rw c.scale.ensures at c.target.ensures) c.in-Some.is) (omega arith))

pub returns-in-Some : goal.returns-in-Some
returns-in-Some c =
    let a = c.args in
    put_at a.plan.now a.parts.now a.write a.i a.b a.o (counted_up 4 a.first a.n) a.room.now (omega arith) (rw c.scale.ensures at c.target.ensures) c.in-Some.is (alike_sized a.n (4) (length_counted 4 a.room.now 0 a.first a.n)) (c.count_up_i32.ensures ∙ ap (λ (z : List ℕ). splice c.in-Some.at z a.room.now) (counted_cut 4 a.room.now 0 a.first a.n))

pub returns-in_default : goal.returns-in_default
returns-in_default c =
    let a = c.args in
    put_skip a.plan.now a.parts.now a.write a.i a.b a.o (counted_up 4 a.first a.n) a.room.now (omega arith) (rw c.scale.ensures at c.target.ensures) c.in_default.is (alike_sized a.n (4) (length_counted 4 a.room.now 0 a.first a.n))
