-- `rows::null_positions` meets its contract. Assumes nothing.
use native.Mathlib.Omega.{arith}
use Rattle.nested_rows.proofs.Laws.{positions_no, positions_stop, positions_yes}
use Rattle.nested_rows.proofs.null_positions.Goals as goal

pub returns-then-grow-gt2147483648 : goal.returns-then-grow-gt2147483648
returns-then-grow-gt2147483648 c =
    let a = c.args in
    positions_no a.plan.now a.parts.now a.write a.i a.counters.now a.room.now a.h a.n c.rows_of-position.ensures c.grow.ensures c.if-grow-gt2147483648.true

pub returns-then-r-ne0 : goal.returns-then-r-ne0
returns-then-r-ne0 c =
    let a = c.args in
    positions_stop a.plan.now a.parts.now a.write a.i a.counters.now a.room.now a.h a.n c.rows_of-position.ensures c.grow.ensures c.if-grow-gt2147483648.false c.null_ids-r.ensures c.if-r-ne0.true

pub returns : goal.returns
returns c =
    let a = c.args in
    positions_yes a.plan.now a.parts.now a.write a.i a.counters.now a.room.now a.h a.n c.rows_of-position.ensures c.grow.ensures c.if-grow-gt2147483648.false c.null_ids-r.ensures c.if-r-ne0.false c.rows_of.ensures c.scale-o.ensures (omega (arith, c.well_formed, c.room-1)) c.put_counted.ensures
