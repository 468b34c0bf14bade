-- `row_rules::half` meets its contract. Assumes nothing.
use Rattle.row_rules.proofs.Sizes.{shifted}
use Rattle.row_rules.proofs.half.Goals as goal

pub returns : goal.returns
returns g c = shifted g.met.N.Unsigned.sized c.SIZE.ensures
