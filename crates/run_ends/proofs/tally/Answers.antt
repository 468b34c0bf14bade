-- `run_ends::tally` meets its contract: the sum is that of the first j runs. Assumes nothing.
use mathlib.Core.Path.{refl}
use native.Mathlib.Numerals.{add-one}
use native.Mathlib.Omega.{arith}
use Rattle.run_ends.specs.Lookup.{tally}
use Rattle.run_ends.proofs.tally.Goals as goal

pub loop-j-init : goal.loop-j-init
unfolding tally
loop-j-init g c = (refl, omega arith)

pub loop-j-preserved : goal.loop-j-preserved
unfolding tally
loop-j-preserved g c = (rw (c.not_above-sum.ensures.value, c.run_end.ensures, c.loop-j.invariant.0, add-one), omega arith)
