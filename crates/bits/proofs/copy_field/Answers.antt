-- `bits::copy_field` meets its contract. Assumes nothing.
use mathlib.Core.Path.{◌∙◌}
use Prim.Native.Nat.{◌+◌, ◌*◌}
use native.Mathlib.Omega.{arith}
use lib.Count.{ones-le}
use Rattle.bits.specs.Bits.{bits_at}
use Rattle.bits.proofs.Steps.{count_is}
use Rattle.bits.proofs.copy_field.Goals as goal

pub overflow_cast-result : goal.overflow_cast-result
overflow_cast-result c = omega (arith, ones-le c.args.k c.field-x.result c.field-x.ensures.0)

pub overflow_sub-result : goal.overflow_sub-result
overflow_sub-result c = omega (arith, ones-le c.args.k c.field-x.result c.field-x.ensures.0)

pub returns : goal.returns
returns c =
    let z = c.args in record { room_after = c.put.ensures ∙ rw c.field-x.ensures.1; value = count_is z.k c.field-x.result (bits_at (8 * z.q + z.j) z.k z.body.now) c.field-x.ensures.0 c.field-x.ensures.1 }
