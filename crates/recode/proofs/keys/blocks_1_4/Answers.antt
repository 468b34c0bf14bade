-- `recode::keys::blocks_1_4` meets its contract: room has the first 64 i entries at `at`. Assumes nothing.
use Rattle.std.proofs.Common.{◌+◌, ◌*◌, sym, arith}
use Rattle.recode.proofs.Laws.{recode_none}
use Rattle.recode.proofs.Blocks.{recode_turn}
use Rattle.recode.proofs.keys.blocks_1_4.Goals as goal

pub loop-i-init : goal.loop-i-init
loop-i-init c = sym (recode_none _ _ _ _ _ _)

pub loop-i-preserved : goal.loop-i-preserved
loop-i-preserved c =
    let z = c.args in
    let l = c.loop-i in
    recode_turn 1 4 z.room.now z.body.now z.at z.from (64 * l.i) 64 (64 * (l.i + 1)) (z.at + 256 * l.i) (z.from + 64 * l.i) l.room _ (omega arith) (omega arith) (omega arith) (omega arith) l.invariant c.block_1_4.ensures
