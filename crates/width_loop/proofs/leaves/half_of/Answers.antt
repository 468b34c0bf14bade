-- `width_loop::leaves::half_of` meets its contract. Assumes nothing.
use mathlib.Core.Path.{sym, ap}
use Rattle.columnar.specs.Types.{half}
use Rattle.width_loop.proofs.leaves.half_of.Goals as goal

pub returns-then-w-eq4 : goal.returns-then-w-eq4
returns-then-w-eq4 c = sym (ap half c.if-w-eq4.true)

pub returns-else-w-eq4 : goal.returns-else-w-eq4
returns-else-w-eq4 c = sym (ap half (c.requires c.if-w-eq4.false))
