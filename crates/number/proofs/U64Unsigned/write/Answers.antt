use Rattle.number.proofs.Laws.{put_halves}
use Rattle.number.proofs.U64Unsigned.write.Goals as goal

pub returns : goal.returns
returns c =
    cc (put_halves 4 4 c.args.at c.args.self c.args.s.now c.requires)
