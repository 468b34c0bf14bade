-- `lafkuno_why::put_listed` meets its contract. Assumes nothing.
use native.Mathlib.Omega.{arith}
use Rattle.lafkuno_why.proofs.Numbers.{four_set, five_set, no_list_room, six_put}
use Rattle.lafkuno_why.proofs.put_listed.Goals as goal

pub returns-then-answer-ne6 : goal.returns-then-answer-ne6
returns-then-answer-ne6 c =
    let a = c.args in
    no_list_room a.w a.answer.now c.if-answer-ne6.true

pub bounds-answer-4 : goal.bounds-answer-4
bounds-answer-4 c =
    let a = c.args in
    omega (arith, four_set a.answer.now a.w.why.refusal a.w.why.node a.w.why.row a.w.why.needed, c.if-answer-ne6.false)

pub bounds-answer-5 : goal.bounds-answer-5
bounds-answer-5 c =
    let a = c.args in
    omega (arith, five_set a.answer.now a.w.why.refusal a.w.why.node a.w.why.row a.w.why.needed a.w.why.allowed, c.if-answer-ne6.false)

pub returns : goal.returns
returns c =
    let a = c.args in
    six_put a.w a.answer.now c.if-answer-ne6.false
