-- `lent_tables::fits` meets its contract. Assumes nothing.
use native.Mathlib.Omega.{arith}
use Rattle.array_data.proofs.lent_tables.Laws.{fits_no, fits_left}
use Rattle.array_data.proofs.lent_tables.fits.Goals as goal

pub returns-then-len-size : goal.returns-then-len-size
returns-then-len-size c =
    let a = c.args in
    fits_no a.at a.size a.len (omega arith)

pub returns : goal.returns
returns c =
    let a = c.args in
    fits_left a.at a.size a.len (omega arith)
