-- `puts::put_keys` meets its contract. Assumes nothing.
use native.Mathlib.Omega.{arith}
use Rattle.room_writes.proofs.Laws.{alike_sized, made, put_at, put_skip, times_within}
use mathlib.Core.Path.{sym, ap, ◌∙◌}
use lib.ListN.{length}
use Rattle.schema.specs.formats.Code.{width_of}
use Rattle.utils.specs.primitive.Primitive.{rebased}
use Rattle.room_writes.proofs.Bytes.{length_rebased}
use Rattle.walk.specs.State.{scaled}
use Rattle.room_writes.proofs.keys.put_keys.Goals as goal

pub write_keys-requires : goal.write_keys-requires
write_keys-requires c =
    let a = c.args in
    record { n_in_bounds = (omega (arith, times_within a.n a.w (made a.plan.now a.parts.now (length a.room.now) a.write a.i a.b a.o (scaled a.n a.w) (rw c.scale.ensures at c.target.ensures) c.in-Some.is) (omega arith)), omega arith); w_value = c.requires.w_value; w_value_2 = c.requires.w_value_2 ∙ sym (ap width_of c.code_of-code.ensures) }

pub returns-in-Some : goal.returns-in-Some
returns-in-Some c =
    let a = c.args in
    put_at a.plan.now a.parts.now a.write a.i a.b a.o (rebased a.w a.body.now a.from a.base a.n) a.room.now (omega arith) (rw c.scale.ensures at c.target.ensures) c.in-Some.is (alike_sized a.n a.w (length_rebased a.w a.body.now a.from a.base a.n)) c.write_keys.ensures

pub returns-in_default : goal.returns-in_default
returns-in_default c =
    let a = c.args in
    put_skip a.plan.now a.parts.now a.write a.i a.b a.o (rebased a.w a.body.now a.from a.base a.n) a.room.now (omega arith) (rw c.scale.ensures at c.target.ensures) c.in_default.is (alike_sized a.n a.w (length_rebased a.w a.body.now a.from a.base a.n))
