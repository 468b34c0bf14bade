-- `lent_tables::rows_fit` meets its contract. Assumes nothing.
use native.Mathlib.Omega.{arith}
use Rattle.array_data.proofs.lent_tables.Laws.{fits_none, fits_more, few_bytes}
use Rattle.array_data.proofs.lent_tables.rows_fit.Goals as goal

pub overflow_mul-result : goal.overflow_mul-result
overflow_mul-result c =
    let a = c.args in
    record { fits = few_bytes a.n a.w (omega arith) (omega arith) }

pub returns-then-w-eq0 : goal.returns-then-w-eq0
returns-then-w-eq0 c =
    let a = c.args in
    fits_none a.n a.size (omega arith)

pub returns : goal.returns
returns c =
    let a = c.args in
    fits_more a.n a.w a.size (omega arith)
