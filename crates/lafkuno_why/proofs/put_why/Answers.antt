-- `lafkuno_why::put_why` meets its contract. Assumes nothing.
use native.Mathlib.Omega.{arith}
use Rattle.lafkuno_why.proofs.Numbers.{four_set, no_room, five_put}
use Rattle.lafkuno_why.proofs.put_why.Goals as goal

pub returns-then-answer-ne5 : goal.returns-then-answer-ne5
returns-then-answer-ne5 c =
    let a = c.args in
    no_room a.w a.answer.now c.if-answer-ne5.true

pub bounds-answer-4 : goal.bounds-answer-4
bounds-answer-4 c =
    let a = c.args in
    omega (arith, four_set a.answer.now a.w.refusal a.w.node a.w.row a.w.needed, c.if-answer-ne5.false)

pub returns : goal.returns
returns c =
    let a = c.args in
    five_put a.w a.answer.now c.if-answer-ne5.false
