use Rattle.std.proofs.Common.{ltb}
use Rattle.number.specs.Number.{entry}
use Rattle.columnar.specs.RunEnd.{start_of}
use Rattle.row_rules.proofs.Laws.{Steps}
use Rattle.row_rules.proofs.run_ends.Given as goal

abbrev pub invariant-loop-k : goal.invariant-loop-k
invariant-loop-k g l = Steps ltb (start_of (entry g.N.Unsigned.SIZE l.body l.at)) l.k (g.N.Unsigned.amount l.before) l.good
