-- `column_runs::put_run` meets its contract. Assumes nothing.
use native.Mathlib.Omega.{arith}
use lib.ListN.{length-set}
use Rattle.row_reader.proofs.runs.Laws.{no_room, refused_run, found_run_lem}
use Rattle.row_reader.proofs.runs.put_run.Goals as goal

pub returns-then-answer-ne2 : goal.returns-then-answer-ne2
returns-then-answer-ne2 c = let z = c.args in let both = no_room z.found z.answer.now _ c.if-answer-ne2.true c.in-Ok.is in record { value = both.0; answer_value = both.1 }

pub bounds-answer-0 : goal.bounds-answer-0
bounds-answer-0 c = omega (arith, c.if-answer-ne2.false)

pub bounds-answer-1 : goal.bounds-answer-1
bounds-answer-1 c = simp length-set (omega (arith, c.if-answer-ne2.false))

pub returns-else-answer-ne2 : goal.returns-else-answer-ne2
returns-else-answer-ne2 c =
    let z = c.args in
    let both = found_run_lem z.found z.answer.now _ c.if-answer-ne2.false c.in-Ok.is in record { value = both.0; answer_value = both.1 }

pub returns-in-Err : goal.returns-in-Err
returns-in-Err c =
    let z = c.args in
    let both = refused_run z.found z.answer.now _ c.in-Err.is in record { value = both.0; answer_value = both.1 }
