-- `utils::largest_offset` meets its contract. Assumes nothing.
use Rattle.utils.proofs.Laws.{shifted}
use Rattle.utils.proofs.largest_offset.Goals as goal

pub returns : goal.returns
returns g c = rw c.SIZE.ensures (shifted g.N.Unsigned.SIZE g.met.N.Unsigned.sized)
