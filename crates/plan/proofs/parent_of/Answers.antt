-- `plan::parent_of` meets its contract. The invariant: no node from p on holds node i. Assumes nothing.
use mathlib.Core.Path.{◌≡◌, sym, ap, ◌∙◌}
use Prim.Native.Nat.{suc, ◌-◌}
use native.Mathlib.Omega.{arith}
use Rattle.plan.specs.Plan.{holder}
use Rattle.plan.proofs.Laws.{holds, holds_not, holds_none}
use Rattle.plan.proofs.parent_of.Goals as goal

pub returns-then-i-end_of : goal.returns-then-i-end_of
returns-then-i-end_of c =
    let z = c.args in
    let l = c.loop-p in
    let e : suc (l.p - 1) ≡ l.p = omega arith in
    record { value = sym (holds z.plan.now z.i (l.p - 1) (omega (arith, c.if-i-end_of.true, c.end_of.ensures.value))) ∙ ap (λ q. holder z.plan.now q z.i) e ∙ l.invariant; upper_bound = omega arith }

pub loop-p-preserved : goal.loop-p-preserved
loop-p-preserved c =
    let z = c.args in
    let l = c.loop-p in
    let e : suc (l.p - 1) ≡ l.p = omega arith in
    sym (holds_not z.plan.now z.i (l.p - 1) (omega (arith, c.if-i-end_of.false, c.end_of.ensures.value))) ∙ ap (λ q. holder z.plan.now q z.i) e ∙ l.invariant

pub returns : goal.returns
returns c =
    let z = c.args in
    let l = c.loop-p in
    record { value = sym (holds_none z.plan.now z.i l.p (omega arith)) ∙ l.invariant; upper_bound = omega arith }
