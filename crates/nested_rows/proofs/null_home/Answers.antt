-- `rows::null_home` meets its contract. Assumes nothing.
use native.Mathlib.Numerals.{add-one}
use Rattle.nested_rows.proofs.Laws.{home_is}
use Rattle.nested_rows.proofs.null_home.Goals as goal

pub returns : goal.returns
returns c =
    let a = c.args in
    record { value = home_is a.plan.now a.i c.end_of.ensures.value (add-one a.i) c.nullable_child.ensures.value; upper_bound = c.nullable_child.ensures.upper_bound }
