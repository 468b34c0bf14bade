-- `recode::keys::recode_1_4` meets its contract. Assumes nothing.
use Rattle.std.proofs.Common.{◌+◌, ◌-◌, ◌*◌, ◌/◌, ◌∙◌, arith}
use Rattle.recode.proofs.Laws.{less_zero, entry_small}
use Rattle.recode.proofs.Blocks.{recode_turn}
use Rattle.recode.proofs.keys.recode_1_4.Goals as goal

pub returns : goal.returns
returns c =
    let z = c.args in
    let m = z.n / 64 in
    let e = less_zero 1 4 z.body.now (z.from + 64 * m) (z.n - 64 * m) (entry_small 1 z.body.now (z.from + 64 * m) (omega arith) (λ k. (c.type_inv.body k).fits)) in
    recode_turn 1 4 z.room.now z.body.now z.at z.from (64 * m) (z.n - 64 * m) z.n (z.at + 256 * m) (z.from + 64 * m) _ _ (omega arith) (omega arith) (omega arith) (omega arith) c.blocks_1_4.ensures (c.less.ensures ∙ rw e)
