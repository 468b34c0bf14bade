-- `slot_reader::rows_of` meets its contract. Assumes nothing.
use native.Mathlib.Omega.{arith}
use Rattle.slot_reader.proofs.Laws.{rows_low, rows_past, rows_in_lem}
use Rattle.slot_reader.proofs.rows_of.Goals as goal

pub returns-then-b-a : goal.returns-then-b-a
returns-then-b-a c =
    let z = c.args in
    rows_low z.i z.n z.a z.b (omega arith)

pub returns-then-n-b : goal.returns-then-n-b
returns-then-n-b c =
    let z = c.args in
    rows_past z.i z.n z.a z.b (omega arith)

pub returns : goal.returns
returns c =
    let z = c.args in
    rows_in_lem z.i z.n z.a z.b (omega arith) (omega arith)
