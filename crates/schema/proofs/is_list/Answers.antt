-- `schema::is_list` meets its contract. Assumes nothing.
use Rattle.schema.proofs.is_list.Goals as goal

pub returns : goal.returns
returns c = cc
