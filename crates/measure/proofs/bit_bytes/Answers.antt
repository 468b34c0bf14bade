-- `measure::bit_bytes` meets its contract. Assumes nothing.
use native.Mathlib.Omega.{arith}
use Rattle.measure.proofs.bit_bytes.Goals as goal

pub returns : goal.returns
returns c = omega arith
