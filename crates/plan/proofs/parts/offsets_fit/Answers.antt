-- `plan::parts::offsets_fit` meets its contract. Assumes nothing.
use Prim.Native.Nat.{◌+◌}
use native.Mathlib.Omega.{arith}
use Rattle.array_data.proofs.lent_tables.Laws.{fits_none}
use Rattle.plan.proofs.parts.Laws.{offsets_more}
use Rattle.plan.proofs.parts.offsets_fit.Goals as goal

pub returns-then-w-eq0 : goal.returns-then-w-eq0
returns-then-w-eq0 c =
    let a = c.args in
    fits_none (a.r + 1) a.size (omega arith)

pub returns : goal.returns
returns c =
    let a = c.args in
    offsets_more a.r a.w a.size (omega arith)
