-- `row_reader::next_step` meets its contract. Assumes nothing.
use mathlib.Core.Path.{refl, sym, ap, ◌∙◌}
use Prim.Native.Nat.{◌+◌}
use native.Mathlib.Omega.{arith}
use Rattle.array_data.specs.entries.Entries.{column}
use Rattle.row_reader.specs.Walk.{sighted, step_on}
use Rattle.row_reader.proofs.Laws.{at_deep, at_over, at_slot}
use Rattle.row_reader.proofs.next_step.Goals as goal

pub returns-then-i-ge32 : goal.returns-then-i-ge32
returns-then-i-ge32 c =
    let z = c.args in
    let y = column z.lengths.now z.places.now z.buffers.now z.body.now z.first in
    at_deep z.tree.now y z.i z.row (omega arith)

pub returns-then-off-row : goal.returns-then-off-row
returns-then-off-row c =
    let z = c.args in
    let y = column z.lengths.now z.places.now z.buffers.now z.body.now z.first in
    at_over z.tree.now y z.i z.row (omega arith) _ c.offset_at-off.ensures (omega arith)

pub step_slot-requires : goal.step_slot-requires
step_slot-requires c = record { i_bound = omega arith; i_bound_2 = omega (arith, c.offset_at-off.ensures) }

pub returns-in-Valid : goal.returns-in-Valid
returns-in-Valid c =
    let z = c.args in
    let y = column z.lengths.now z.places.now z.buffers.now z.body.now z.first in
    ap (λ v. sighted z.tree.now y v c.step_slot.result) (sym c.in-Valid.is) ∙ at_slot z.tree.now y z.i z.row (omega arith) _ c.offset_at-off.ensures (omega arith) _ c.valid_at.ensures c.step_slot.result c.step_slot.ensures

pub returns-in-Null : goal.returns-in-Null
returns-in-Null c =
    let z = c.args in
    let y = column z.lengths.now z.places.now z.buffers.now z.body.now z.first in
    let s = step_on z.tree.now y z.i (c.offset_at-off.result + z.row) in
    ap (λ v. sighted z.tree.now y v s) (sym c.in-Null.is) ∙ at_slot z.tree.now y z.i z.row (omega arith) _ c.offset_at-off.ensures (omega arith) _ c.valid_at.ensures s refl

pub returns-in-Outside : goal.returns-in-Outside
returns-in-Outside c =
    let z = c.args in
    let y = column z.lengths.now z.places.now z.buffers.now z.body.now z.first in
    let s = step_on z.tree.now y z.i (c.offset_at-off.result + z.row) in
    ap (λ v. sighted z.tree.now y v s) (sym c.in-Outside.is) ∙ at_slot z.tree.now y z.i z.row (omega arith) _ c.offset_at-off.ensures (omega arith) _ c.valid_at.ensures s refl
