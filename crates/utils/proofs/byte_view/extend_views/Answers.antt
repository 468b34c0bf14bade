-- `byte_view::extend_views` meets its contract: room has the first i views, reindexed, at `at`. Assumes nothing.
use Rattle.std.proofs.Common.{sym, arith}
use Rattle.utils.proofs.byte_view.Laws.{reviewed_none, reviewed_turn}
use Rattle.utils.proofs.byte_view.extend_views.Goals as goal

pub loop-i-init : goal.loop-i-init
loop-i-init c = sym (reviewed_none _ _ _ _ _)

pub loop-i-preserved : goal.loop-i-preserved
loop-i-preserved c =
    let a = c.args in
    reviewed_turn a.room.now _ _ a.body.now a.at a.from a.base c.loop-i.i _ _ (omega arith) (omega arith) (λ k. (c.type_inv.body k).fits) c.loop-i.invariant c.from_bytes-v.ensures c.reindexed.ensures c.write_view.ensures
