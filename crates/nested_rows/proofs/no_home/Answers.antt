-- `rows::no_home` meets its contract. Assumes nothing.
use native.Mathlib.Numerals.{add-one}
use Rattle.nested_rows.proofs.Laws.{home_five, home_four}
use Rattle.nested_rows.proofs.no_home.Goals as goal

pub returns-then-i-end_of : goal.returns-then-i-end_of
returns-then-i-end_of c =
    let a = c.args in
    home_five a.plan.now a.i c.end_of.ensures.value (add-one a.i) c.if-i-end_of.true

pub returns : goal.returns
returns c =
    let a = c.args in
    home_four a.plan.now a.i c.end_of.ensures.value (add-one a.i) c.if-i-end_of.false
