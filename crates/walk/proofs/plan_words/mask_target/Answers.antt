-- `growth::mask_target` meets its contract. Assumes nothing.
use Prim.Native.Nat.{◌*◌}
use Rattle.walk.proofs.plan_words.Laws.{room_no, room_yes, mask_skip_tries, mask_skip_room, mask_goes}
use Rattle.walk.proofs.plan_words.mask_target.Goals as goal

pub returns-then-not-write : goal.returns-then-not-write
returns-then-not-write c =
    let a = c.args in
    mask_skip_tries a.plan.now a.parts.now a.m a.write a.i a.p a.n c.if-not-write.true-raw

pub returns-then-not-bits_fit_behind : goal.returns-then-not-bits_fit_behind
returns-then-not-bits_fit_behind c =
    let a = c.args in
    mask_skip_room a.plan.now a.parts.now a.m a.write a.i a.p a.n c.start_of-start.ensures
    (room_no _ a.p a.n (8 * a.m) c.bits_fit_behind.ensures c.if-not-bits_fit_behind.true-raw)

pub returns : goal.returns
returns c =
    let a = c.args in
    mask_goes a.plan.now a.parts.now a.m a.write a.i a.p a.n c.start_of-start.ensures c.if-not-write.false-raw
    (room_yes _ a.p a.n (8 * a.m) c.bits_fit_behind.ensures c.if-not-bits_fit_behind.false-raw)
