use Rattle.number.proofs.Laws.{put_halves}
use Rattle.number.proofs.U16Unsigned.write.Goals as goal

pub returns : goal.returns
returns c =
    cc (put_halves 1 1 c.args.at c.args.self c.args.s.now c.requires)
