-- `string_walk::bytes_in` meets its contract. Assumes nothing.
use Rattle.leaf_walk.proofs.variable_size.bytes_in.Goals as goal

pub returns : goal.returns
returns c = c.fits_behind.ensures
