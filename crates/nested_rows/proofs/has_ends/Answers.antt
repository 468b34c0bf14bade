-- `rows::has_ends` meets its contract. Assumes nothing.
use native.Mathlib.Numerals.{add-one}
use Rattle.nested_rows.proofs.Laws.{ends_far, ends_near, two_wide, four_wide, else_wide}
use Rattle.nested_rows.proofs.has_ends.Goals as goal

pub returns-then-i-ge30 : goal.returns-then-i-ge30
returns-then-i-ge30 c = ends_far c.args.i _ c.if-i-ge30.true

pub returns-then-w-eq2 : goal.returns-then-w-eq2
returns-then-w-eq2 c =
    let a = c.args in
    ends_near a.i a.plan.now c.if-i-ge30.false (add-one a.i) c.width_at-w.ensures (two_wide _ c.if-w-eq2.true)

pub returns-then-w-eq4 : goal.returns-then-w-eq4
returns-then-w-eq4 c =
    let a = c.args in
    ends_near a.i a.plan.now c.if-i-ge30.false (add-one a.i) c.width_at-w.ensures (four_wide _ c.if-w-eq4.true)

pub returns : goal.returns
returns c =
    let a = c.args in
    ends_near a.i a.plan.now c.if-i-ge30.false (add-one a.i) c.width_at-w.ensures (else_wide _ c.if-w-eq2.false c.if-w-eq4.false)
