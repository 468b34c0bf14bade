-- `schema::nullable_of` meets its contract. Assumes nothing.
use Rattle.schema.proofs.nullable_of.Goals as goal

pub returns : goal.returns
returns c = cc
