-- `recode::keys::recode_2_1` meets its contract. Assumes nothing.
use Rattle.std.proofs.Common.{◌≡◌, ◌+◌, ◌*◌, ◌/◌, arith}
use Rattle.recode.proofs.Laws.{odd_last}
use Rattle.recode.proofs.keys.recode_2_1.Goals as goal

pub returns-then-m-n : goal.returns-then-m-n
returns-then-m-n c =
    let z = c.args in
    let e : z.n ≡ 2 * (z.n / 2) + 1 = omega arith in
    odd_last z.room.now z.body.now z.at z.from (z.n / 2) z.n c.read-v.result e (omega arith) c.read-v.ensures c.pairs_2_1.ensures c.write.ensures
