-- `slots::field_of` meets its contract: the fields before i have other ids. Assumes nothing.
use Rattle.std.proofs.Common.{◌≡◌, ℕ, length, drop, ap, arith}
use Rattle.row_rules.specs.slots.Slots.{field_of}
use Rattle.row_rules.proofs.slots.Laws.{field_here, field_later, field_none}
use Rattle.row_rules.proofs.slots.field_of.Goals as goal

pub returns-then-ids-i : goal.returns-then-ids-i
returns-then-ids-i c = omega (arith, c.loop-i.invariant, field_here c.args.ids.now c.args.id c.loop-i.i (omega arith) c.if-ids-i.true)

pub loop-i-preserved : goal.loop-i-preserved
loop-i-preserved c = omega (arith, c.loop-i.invariant, field_later c.args.ids.now c.args.id c.loop-i.i (omega arith) c.if-ids-i.false)

pub returns : goal.returns
returns c =
    let z = c.args in
    let e : c.loop-i.i ≡ length z.ids.now = omega arith in
    omega (arith, c.loop-i.invariant, field_none z.ids.now z.id, ap (λ (k : ℕ). field_of (drop k z.ids.now) z.id) e)
