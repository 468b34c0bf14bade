use native.Mathlib.Omega.{arith}
use mathlib.Core.Path.{sym}
use Rattle.number.proofs.Laws.{one}
use Rattle.number.proofs.U8Unsigned.read.Goals as goal

pub returns : goal.returns
returns c = sym (one c.args.at c.args.s.now (omega arith))
