-- `schema::is_leaf` meets its contract. Assumes nothing.
use Rattle.schema.proofs.is_leaf.Goals as goal

pub returns : goal.returns
returns c = cc
