-- `row_rules::not` meets its contract. Assumes nothing.
use Rattle.row_rules.proofs.Gather.{not_is}
use Rattle.row_rules.proofs.not.Goals as goal

pub returns : goal.returns
returns g c = not_is g.met.N.Unsigned.sized c.truncate.ensures c.requires c.wrapping_sub.ensures
