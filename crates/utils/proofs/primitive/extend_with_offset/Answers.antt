-- `primitive::extend_with_offset` meets its contract: room has the first i keys, rebased, at `at`. Assumes nothing.
use Rattle.std.proofs.Common.{sym, arith}
use Rattle.utils.proofs.Laws.{next_within}
use Rattle.utils.proofs.primitive.Laws.{rebased_none, rebased_step}
use Rattle.utils.proofs.primitive.extend_with_offset.Goals as goal

pub loop-i-init : goal.loop-i-init
loop-i-init g c = sym (rebased_none _ _ _ _ _ _)

pub loop-i-preserved : goal.loop-i-preserved
loop-i-preserved g c =
    let a = c.args in
    let w = g.N.Unsigned.SIZE in
    cc (rebased_step w a.room.now a.body.now a.at a.from (g.N.Unsigned.amount a.base) c.loop-i.i (omega (arith, next_within w c.loop-i.i a.n c.loop-i-test.true)))
