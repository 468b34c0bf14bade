-- `lent_tables::rows_fit_behind` meets its contract. Assumes nothing.
use mathlib.Core.Path.{ap, ◌∙◌}
use Prim.Native.Nat.{◌-◌, ◌*◌}
use native.Mathlib.Nat.{mul_comm}
use native.Mathlib.Omega.{arith}
use lib.Dec.{leb}
use Rattle.array_data.proofs.lent_tables.Laws.{start_no, start_yes}
use Rattle.array_data.proofs.lent_tables.rows_fit_behind.Goals as goal

pub returns-then-len-at : goal.returns-then-len-at
returns-then-len-at c =
    let a = c.args in
    start_no a.at (a.w * a.n) a.len (omega arith)

pub returns : goal.returns
returns c =
    let a = c.args in
    c.rows_fit.ensures ∙ ap (λ k. leb k (a.len - a.at)) (mul_comm a.n a.w) ∙ start_yes a.at (a.w * a.n) a.len (omega arith)
