-- `lent_tables::bits_fit` meets its contract. Assumes nothing.
use Rattle.array_data.proofs.lent_tables.Laws.{bits_held}
use Rattle.array_data.proofs.lent_tables.bits_fit.Goals as goal

pub returns : goal.returns
returns c =
    let a = c.args in
    bits_held a.a a.n a.bytes
