-- `run_ends::bisect` meets its contract: what is left of the search is the whole search. Assumes nothing.
use native.Mathlib.Omega.{arith}
use Rattle.run_ends.proofs.Search.{go_on_lem, stop}
use Rattle.run_ends.proofs.bisect.Goals as goal

pub loop-size-preserved : goal.loop-size-preserved
loop-size-preserved g c =
    let l = c.loop-size in
    go_on_lem _ _ _ l.base l.size (omega arith) c.passed-t.ensures.value l.invariant

pub returns : goal.returns
returns g c =
    let l = c.loop-size in
    rw c.tally.ensures.value (stop _ _ _ l.base l.size (omega arith) l.invariant)
