-- `coding::row_plan::rows_hold` meets its contract. Assumes nothing.
use Rattle.coding.proofs.RowRoom.{hold_none, hold_plain, hold_bits}
use Rattle.coding.proofs.row_plan.rows_hold.Goals as goal

pub returns-then-not-rows_fit : goal.returns-then-not-rows_fit
returns-then-not-rows_fit c =
    let z = c.args in
    hold_none z.row.code z.row.nullable z.m z.parts.now c.requires.1 z.row.nulls c.requires.0 c.width_of-w.ensures c.at_u64.ensures c.rows_fit.ensures c.if-not-rows_fit.true-raw

pub returns-then-k-eq0 : goal.returns-then-k-eq0
returns-then-k-eq0 c =
    let z = c.args in
    hold_plain z.row.code z.row.nullable z.m z.parts.now c.requires.1 z.row.nulls c.requires.0 c.width_of-w.ensures c.at_u64.ensures c.rows_fit.ensures c.if-not-rows_fit.false-raw c.if-k-eq0.true

pub returns : goal.returns
returns c =
    let z = c.args in
    hold_bits z.row.code z.row.nullable z.m z.parts.now c.requires.1 z.row.nulls c.requires.0 c.width_of-w.ensures c.at_u64.ensures c.rows_fit.ensures c.if-not-rows_fit.false-raw c.if-k-eq0.false c.at_u64-2.ensures c.bits_fit.ensures
