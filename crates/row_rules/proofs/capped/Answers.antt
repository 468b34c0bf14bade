-- `row_rules::capped` meets its contract. Assumes nothing.
use Rattle.row_rules.proofs.Gather.{capped_is}
use Rattle.row_rules.proofs.capped.Goals as goal

pub returns : goal.returns
returns g c = capped_is g.met.N.Unsigned.sized c.args.rows (rw c.to_u64.ensures c.truncate.ensures) c.min.ensures c.truncate-2.ensures
