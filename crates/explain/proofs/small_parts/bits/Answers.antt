-- `explain::small_parts::bits` meets its contract. Assumes nothing.
use native.Mathlib.Omega.{arith}
use Rattle.explain.proofs.small_parts.bits.Goals as goal

pub returns : goal.returns
returns c = omega arith
