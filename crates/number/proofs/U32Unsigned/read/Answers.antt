use native.Mathlib.Omega.{arith}
use Rattle.number.proofs.Laws.{halves}
use Rattle.number.proofs.U32Unsigned.read.Goals as goal

pub returns : goal.returns
returns c = omega (arith, halves 2 2 c.args.at c.args.s.now)
