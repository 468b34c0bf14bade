-- `whole_cells::count_below` meets its contract. Assumes nothing.
use Rattle.std.proofs.Common.{arith, le-ltb, lt-ltb}
use Rattle.aggregates.proofs.cells.count_below.Goals as goal

pub returns-then-top-p : goal.returns-then-top-p
returns-then-top-p c = (rw (lt-ltb c.args.top c.args.p c.if-top-p.true), omega arith)

pub returns-else-top-p : goal.returns-else-top-p
returns-else-top-p c = (rw (le-ltb c.args.top c.args.p c.if-top-p.false), omega arith)
