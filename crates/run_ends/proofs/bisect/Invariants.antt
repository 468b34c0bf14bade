use Rattle.number.specs.Number.{entry}
use Rattle.run_ends.proofs.Search.{Quartering}
use Rattle.run_ends.proofs.bisect.Given as goal

abbrev pub invariant-loop-size : goal.invariant-loop-size
invariant-loop-size g l = Quartering (entry g.N.Unsigned.SIZE l.body l.from) l.row.0 l.n l.base l.size

abbrev pub decreases-loop-size : goal.decreases-loop-size
decreases-loop-size g l = l.size
