-- `bits::low` meets its contract. Assumes nothing.
use native.Mathlib.Omega.{arith}
use Rattle.bits.proofs.Steps.{one_shl, one_shl_pos}
use Rattle.bits.proofs.low.Goals as goal

pub nonzero_rem-result : goal.nonzero_rem-result
nonzero_rem-result c = one_shl_pos c.args.k (omega arith)

pub returns : goal.returns
returns c = rw (one_shl c.args.k (omega arith))
