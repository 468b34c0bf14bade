-- `byte_view::write_view` meets its contract. Assumes nothing.
use Rattle.utils.proofs.byte_view.Laws.{write_four}
use Rattle.utils.proofs.byte_view.write_view.Goals as goal

pub returns : goal.returns
returns c = cc (write_four c.args.room.now c.args.at c.args.v c.requires)
