-- `rows::sum_fits` meets its contract. Assumes nothing.
use native.Mathlib.Omega.{arith}
use mathlib.Core.Path.{sym, ap}
use Rattle.columnar.specs.Types.{half}
use Rattle.nested_rows.proofs.Laws.{sum_fits}
use Rattle.nested_rows.proofs.sum_fits.Goals as goal

pub returns-then-w-eq2 : goal.returns-then-w-eq2
returns-then-w-eq2 c =
    let a = c.args in
    sum_fits a.w a.v a.n 32768 (sym (ap half c.if-w-eq2.true)) (omega arith) c.grow-sum.ensures

pub returns-then-w-eq4 : goal.returns-then-w-eq4
returns-then-w-eq4 c =
    let a = c.args in
    sum_fits a.w a.v a.n 2147483648 (sym (ap half c.if-w-eq4.true)) (omega arith) c.grow-sum.ensures

pub returns : goal.returns
returns c =
    let a = c.args in
    sum_fits a.w a.v a.n 9223372036854775808 (sym (ap half (c.requires c.if-w-eq2.false c.if-w-eq4.false))) (omega arith) c.grow-sum.ensures
