-- `recode::keys::pairs_2_1` meets its contract. Assumes nothing.
use Rattle.std.proofs.Common.{sym, arith}
use Rattle.recode.proofs.Laws.{recode_none, pair_step}
use Rattle.recode.proofs.keys.pairs_2_1.Goals as goal

pub loop-i-init : goal.loop-i-init
loop-i-init c = sym (recode_none _ _ _ _ _ _)

pub loop-i-preserved : goal.loop-i-preserved
loop-i-preserved c =
    let z = c.args in
    let i = c.loop-i.i in
    let v = c.read-v in
    cc (pair_step z.room.now z.body.now z.at z.from i v.result (omega arith) (λ j. (c.type_inv.body j).fits) v.ensures)
