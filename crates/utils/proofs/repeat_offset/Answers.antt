-- `utils::repeat_offset` meets its contract: room has the offset i times at `at`. Assumes nothing.
use Rattle.std.proofs.Common.{sym, arith}
use Rattle.utils.proofs.Laws.{repeated_none, repeated_step, next_within}
use Rattle.utils.proofs.repeat_offset.Goals as goal

pub loop-i-init : goal.loop-i-init
loop-i-init g c = sym (repeated_none _ _ _ _)

pub loop-i-preserved : goal.loop-i-preserved
loop-i-preserved g c =
    let a = c.args in
    let w = g.N.Unsigned.SIZE in
    cc (repeated_step w (g.N.Unsigned.amount a.v) a.room.now a.at c.loop-i.i (omega (arith, next_within w c.loop-i.i a.n c.loop-i-test.true)))
