-- `bits::field` meets its contract. Assumes nothing.
use native.Mathlib.Omega.{arith}
use Prim.Native.Nat.{◌/◌, ◌^◌}
use lib.Pow.{shr_le}
use Rattle.bits.proofs.Steps.{pow_le_byte, low_lt, field_is}
use Rattle.bits.proofs.field.Goals as goal

pub overflow_cast-read : goal.overflow_cast-read
overflow_cast-read c = omega (arith, shr_le c.read.result c.args.j)

pub overflow_cast-result : goal.overflow_cast-result
overflow_cast-result c = omega (arith, low_lt (c.read.result / 2 ^ c.args.j) c.args.k, pow_le_byte c.args.k (omega arith))

pub returns-then-j-k-le8 : goal.returns-then-j-k-le8
returns-then-j-k-le8 c =
    let z = c.args in
    rw c.low.ensures (
      low_lt (c.read.result / 2 ^ z.j) z.k,
      field_is 1 z.q z.j z.k c.read.result z.body.now (λ i. (c.shared_slice_known-1.given i).fits) (omega arith) (omega arith) c.read.ensures,
    )

pub overflow_cast-result-2 : goal.overflow_cast-result-2
overflow_cast-result-2 c = omega (arith, low_lt (c.read-2.result / 2 ^ c.args.j) c.args.k, pow_le_byte c.args.k (omega arith))

pub returns : goal.returns
returns c =
    let z = c.args in
    rw c.low-2.ensures (
      low_lt (c.read-2.result / 2 ^ z.j) z.k,
      field_is 2 z.q z.j z.k c.read-2.result z.body.now (λ i. (c.shared_slice_known-1.given i).fits) (omega arith) (omega arith) c.read-2.ensures,
    )
