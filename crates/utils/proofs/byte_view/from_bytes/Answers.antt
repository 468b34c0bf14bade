-- `byte_view::from_bytes` meets its contract. Assumes nothing.
use Rattle.utils.proofs.byte_view.from_bytes.Goals as goal

pub returns : goal.returns
returns c = cc
