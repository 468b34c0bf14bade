-- `utils::count_up_i32` meets its contract: room has i numbers at `at`, and position is the next. Assumes nothing.
use Rattle.std.proofs.Common.{sym, arith}
use Rattle.utils.proofs.Laws.{counted_none, counted_step}
use Rattle.utils.proofs.count_up_i32.Goals as goal

pub loop-i-init : goal.loop-i-init
loop-i-init c = (omega arith, sym (counted_none _ _ _ _))

pub loop-i-preserved : goal.loop-i-preserved
loop-i-preserved c =
    let a = c.args in
    (omega arith, cc (counted_step 4 a.first a.room.now a.at c.loop-i.i (omega arith)))
