use Rattle.number.specs.Number.{entry}
use Rattle.row_rules.proofs.Gather.{Offsets}
use Rattle.row_rules.proofs.offsets.Given as goal

abbrev pub invariant-loop-i : goal.invariant-loop-i
invariant-loop-i g l = Offsets g.met.N.Unsigned.sized (entry g.N.Unsigned.SIZE l.body l.at) l.n l.i (g.N.Unsigned.amount l.all)
