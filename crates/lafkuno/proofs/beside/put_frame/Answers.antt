-- `lafkuno::beside::put_frame` meets its contract. Assumes nothing.
use Rattle.lafkuno.proofs.FrameCalls.{set_four}
use Rattle.lafkuno.proofs.beside.put_frame.Goals as goal

pub returns : goal.returns
returns c = set_four c.args.room.now c.args.f.south c.args.f.north c.args.f.west c.args.f.east c.requires
