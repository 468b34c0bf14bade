-- `bits::get_bit` meets its contract. Assumes nothing.
use mathlib.Core.Path.{◌≡◌, sym, ◌∙◌}
use Prim.Native.Nat.{◌+◌, ◌*◌, ◌/◌, ◌%◌}
use native.Mathlib.Omega.{arith}
use Rattle.bits.proofs.Laws.{bit_at}
use Rattle.bits.proofs.get_bit.Goals as goal

pub returns : goal.returns
returns c =
    let z = c.args in
    let a : (8 * z.from + z.i) / 8 ≡ z.from + z.i / 8 = omega arith in
    let b : (8 * z.from + z.i) % 8 ≡ z.i % 8 = omega arith in
    sym (bit_at z.body.now (8 * z.from + z.i) ∙ rw (a, b))
