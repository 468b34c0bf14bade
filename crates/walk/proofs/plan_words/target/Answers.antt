-- `growth::target` meets its contract. Assumes nothing.
use native.Mathlib.Omega.{arith}
use Rattle.walk.proofs.plan_words.Laws.{room_no, room_yes, inside, skip_tries, skip_room, goes}
use Rattle.walk.proofs.plan_words.target.Goals as goal

pub returns-then-not-write : goal.returns-then-not-write
returns-then-not-write c =
    let a = c.args in
    skip_tries a.plan.now a.parts.now a.m a.write a.i a.b a.o a.n c.if-not-write.true-raw

pub returns-then-not-fits_behind : goal.returns-then-not-fits_behind
returns-then-not-fits_behind c =
    let a = c.args in
    skip_room a.plan.now a.parts.now a.m a.write a.i a.b a.o a.n c.start_of-start.ensures
    (room_no _ a.o a.n a.m c.fits_behind.ensures c.if-not-fits_behind.true-raw)

pub overflow_add-at : goal.overflow_add-at
overflow_add-at c =
    let a = c.args in
    omega (arith, inside _ a.o a.n a.m (room_yes _ a.o a.n a.m c.fits_behind.ensures c.if-not-fits_behind.false-raw))

pub returns : goal.returns
returns c =
    let a = c.args in
    goes a.plan.now a.parts.now a.m a.write a.i a.b a.o a.n c.start_of-start.ensures c.if-not-write.false-raw
    (room_yes _ a.o a.n a.m c.fits_behind.ensures c.if-not-fits_behind.false-raw)
