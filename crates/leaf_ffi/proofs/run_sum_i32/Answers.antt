-- A row more adds its run.
use Rattle.std.proofs.Common.{refl, add-one}
use Rattle.leaf_ffi.specs.Calls.{run_sum}
use Rattle.leaf_ffi.proofs.run_sum_i32.Goals as goal

pub loop-row-init : goal.loop-row-init
unfolding run_sum
loop-row-init c = refl

pub loop-row-preserved : goal.loop-row-preserved
unfolding run_sum
loop-row-preserved c = rw (c.run_of-sum.ensures, c.find_run-found.ensures.value, c.loop-row.invariant, add-one)
