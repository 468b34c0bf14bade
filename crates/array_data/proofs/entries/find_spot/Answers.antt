-- `lent_entries::find_spot` meets its contract. Assumes nothing.
use native.Mathlib.Omega.{arith}
use Rattle.array_data.specs.Tables.{part}
use Rattle.array_data.proofs.entries.Laws.{no_width, past_end, before_end, spot_no, spot_yes, inside}
use Rattle.array_data.proofs.entries.find_spot.Goals as goal

pub returns-then-w-eq0 : goal.returns-then-w-eq0
returns-then-w-eq0 c =
    let z = c.args in
    let s = part z.body.now z.start z.size in
    spot_no z.w s z.slot z.start (no_width z.w s z.slot c.if-w-eq0.true)

pub returns-then-len-w : goal.returns-then-len-w
returns-then-len-w c =
    let z = c.args in
    let s = part z.body.now z.start z.size in
    spot_no z.w s z.slot z.start (past_end z.w s z.slot _ c.part_len-len.ensures c.if-w-eq0.false c.if-len-w.true)

pub overflow_mul-result : goal.overflow_mul-result
overflow_mul-result c =
    let z = c.args in
    let s = part z.body.now z.start z.size in
    omega (arith, inside z.body.now z.start z.size z.w z.slot (before_end z.w s z.slot _ c.part_len-len.ensures c.if-w-eq0.false (omega arith)))

pub overflow_add-result : goal.overflow_add-result
overflow_add-result c =
    let z = c.args in
    let s = part z.body.now z.start z.size in
    omega (arith, inside z.body.now z.start z.size z.w z.slot (before_end z.w s z.slot _ c.part_len-len.ensures c.if-w-eq0.false (omega arith)))

pub returns : goal.returns
returns c =
    let z = c.args in
    let s = part z.body.now z.start z.size in
    spot_yes z.w s z.slot z.start (before_end z.w s z.slot _ c.part_len-len.ensures c.if-w-eq0.false (omega arith))
