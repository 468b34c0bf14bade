-- `puts::put_views` meets its contract. Assumes nothing.
use native.Mathlib.Omega.{arith}
use mathlib.Core.Path.{ap, ◌∙◌}
use mathlib.Core.List.{List}
use Prim.Native.Nat.{ℕ}
use Rattle.room_writes.proofs.Laws.{alike_sized, made, put_at, put_skip, times_within}
use lib.ListN.{length}
use Rattle.number.specs.Number.{splice}
use Rattle.utils.specs.byte_view.View.{reviewed}
use Rattle.room_writes.proofs.Bytes.{length_reviewed, reviewed_cut}
use Rattle.walk.specs.State.{scaled}
use Rattle.room_writes.proofs.put_views.Goals as goal

pub extend_views-requires : goal.extend_views-requires
extend_views-requires c =
    let a = c.args in
    record { n_in_bounds = omega (arith, times_within a.n (16) (made a.plan.now a.parts.now (length a.room.now) a.write a.i a.b a.o (scaled a.n (16)) (rw c.scale.ensures at c.target.ensures) c.in-Some.is) (omega arith)); n_in_bounds_2 = omega (arith, times_within a.n (16) (made a.plan.now a.parts.now (length a.room.now) a.write a.i a.b a.o (scaled a.n (16)) (rw c.scale.ensures at c.target.ensures) c.in-Some.is) (omega arith)) }

pub returns-in-Some : goal.returns-in-Some
returns-in-Some c =
    let a = c.args in
    put_at a.plan.now a.parts.now a.write a.i a.b a.o (reviewed a.body.now a.from a.base a.n) a.room.now (omega arith) (rw c.scale.ensures at c.target.ensures) c.in-Some.is (alike_sized a.n (16) (length_reviewed a.body.now a.from a.base a.n (omega arith))) (c.extend_views.ensures ∙ ap (λ (z : List ℕ). splice c.in-Some.at z a.room.now) (reviewed_cut a.body.now a.from a.base a.n))

pub returns-in_default : goal.returns-in_default
returns-in_default c =
    let a = c.args in
    put_skip a.plan.now a.parts.now a.write a.i a.b a.o (reviewed a.body.now a.from a.base a.n) a.room.now (omega arith) (rw c.scale.ensures at c.target.ensures) c.in_default.is (alike_sized a.n (16) (length_reviewed a.body.now a.from a.base a.n (omega arith)))
