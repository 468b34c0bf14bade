-- The sum is that of the rows so far.
use Rattle.std.proofs.Common.{◌≡◌}
use Rattle.leaf_ffi.specs.Calls.{run_sum}
use Rattle.leaf_ffi.proofs.run_sum_i32.Given as goal

abbrev pub invariant-loop-row : goal.invariant-loop-row
invariant-loop-row l = l.sum ≡ run_sum 4 l.body l.from l.n l.rows l.row-index
