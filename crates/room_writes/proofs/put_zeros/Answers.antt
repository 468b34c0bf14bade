-- `puts::put_zeros` meets its contract. Assumes nothing.
use native.Mathlib.Omega.{arith}
use mathlib.Core.Path.{ap, ◌∙◌}
use mathlib.Core.List.{List}
use Prim.Native.Nat.{ℕ}
use Rattle.room_writes.proofs.Laws.{alike_scaled, alike_sized, made, put_at, put_skip}
use Prim.Native.Nat.{◌*◌}
use native.Mathlib.Nat.{mul_comm}
use Rattle.number.specs.Number.{splice}
use lib.ListN.{length, replicate, length-replicate}
use Rattle.walk.specs.State.{scaled}
use Rattle.room_writes.proofs.put_zeros.Goals as goal

pub fill_zeros-requires : goal.fill_zeros-requires
fill_zeros-requires c =
    let a = c.args in
    omega (arith, (made a.plan.now a.parts.now (length a.room.now) a.write a.i a.b a.o c.scale-size.result c.target.ensures c.in-Some.is).within)

pub returns-in-Some : goal.returns-in-Some
returns-in-Some c =
    let a = c.args in
    put_at a.plan.now a.parts.now a.write a.i a.b a.o (replicate (a.n * a.w) 0) a.room.now (omega arith) (rw c.scale-size.ensures at c.target.ensures) c.in-Some.is (alike_sized a.n a.w (simp length-replicate (mul_comm a.n a.w))) (c.fill_zeros.ensures ∙ ap (λ (z : List ℕ). splice c.in-Some.at z a.room.now) (ap (λ (z : ℕ). replicate z 0) (c.scale-size.ensures ∙ (alike_scaled a.n a.w).less (omega (arith, (made a.plan.now a.parts.now (length a.room.now) a.write a.i a.b a.o (scaled a.n a.w) (rw c.scale-size.ensures at c.target.ensures) c.in-Some.is).within)))))

pub returns-in_default : goal.returns-in_default
returns-in_default c =
    let a = c.args in
    put_skip a.plan.now a.parts.now a.write a.i a.b a.o (replicate (a.n * a.w) 0) a.room.now (omega arith) (rw c.scale-size.ensures at c.target.ensures) c.in_default.is (alike_sized a.n a.w (simp length-replicate (mul_comm a.n a.w)))
