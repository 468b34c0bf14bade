-- `bits::copy_aligned` meets its contract. Assumes nothing.
use mathlib.Core.Path.{◌≡◌, sym, ◌∙◌}
use Prim.Native.Nat.{◌+◌, ◌*◌, ◌/◌, ◌%◌}
use native.Mathlib.Omega.{arith}
use Rattle.bits.proofs.Puts.{zeros_add, zeros_bits_at}
use Rattle.bits.proofs.Steps.{copy_more}
use Rattle.bits.proofs.copy_aligned.Goals as goal

pub overflow_add-result : goal.overflow_add-result
overflow_add-result c =
    let z = c.args in
    let m = z.n / 64 in
    omega (arith, zeros_bits_at (8 * z.q + z.j) (64 * m) z.body.now, zeros_bits_at (8 * (z.q + 8 * m) + z.j) (z.n % 64) z.body.now, c.copy_whole-words.ensures.value, c.copy_fields-rest.ensures.value)

pub returns : goal.returns
returns c =
    let z = c.args in
    let m = z.n / 64 in
    let e : 8 * (z.d + 8 * m) ≡ 8 * z.d + 64 * m = omega arith in
    let f : 8 * (z.q + 8 * m) + z.j ≡ 8 * z.q + z.j + 64 * m = omega arith in
    let g : 64 * m + z.n % 64 ≡ z.n = omega arith in record { room_after = c.copy_fields-rest.ensures.room_after ∙ rw (c.copy_whole-words.ensures.room_after, e, f) (rw g at (copy_more (8 * z.d) (8 * z.q + z.j) (64 * m) (z.n % 64) z.room.now z.body.now (omega arith) (omega arith))); value = rw (c.copy_whole-words.ensures.value, c.copy_fields-rest.ensures.value, f) (rw g at (sym (zeros_add (8 * z.q + z.j) (64 * m) (z.n % 64) z.body.now))) }
