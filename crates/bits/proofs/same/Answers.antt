-- `bits::same` meets its contract. Assumes nothing.
use native.Mathlib.Omega.{arith}
use Rattle.bits.proofs.Steps.{one_shl, one_shl_pos, pow_le_byte, same_byte, same_lt, same_is}
use Rattle.bits.proofs.same.Goals as goal

pub overflow_sub-result : goal.overflow_sub-result
overflow_sub-result c = omega (arith, one_shl_pos c.args.k (omega arith))

pub overflow_cast-result-2 : goal.overflow_cast-result-2
overflow_cast-result-2 c = omega (arith, one_shl c.args.k (omega arith), pow_le_byte c.args.k (omega arith))

pub overflow_mul-result : goal.overflow_mul-result
overflow_mul-result c = omega (arith, same_byte c.args.k c.args.v (omega arith) (omega arith))

pub returns : goal.returns
returns c =
    let z = c.args in
    rw (one_shl z.k (omega arith)) (same_lt z.k z.v (omega arith), same_is z.k z.v (omega arith))
