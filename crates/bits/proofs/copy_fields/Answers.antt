-- `bits::copy_fields` meets its contract: room has the first i bits. Assumes nothing.
use mathlib.Core.Path.{◌≡◌, sym, ◌∙◌}
use Prim.Native.Nat.{◌+◌, ◌*◌, min}
use native.Mathlib.Omega.{arith}
use Rattle.bits.proofs.Laws.{below_of_lem}
use Rattle.bits.proofs.Puts.{zeros_add, zeros_bits_at}
use Rattle.bits.proofs.Steps.{copy_none, zeros_none, copy_more}
use Rattle.bits.proofs.copy_fields.Goals as goal

pub loop-i-init : goal.loop-i-init
loop-i-init c =
    let z = c.args in
    let a : min z.n 0 ≡ 0 = omega arith in
    rw a (
      copy_none (8 * z.d) (8 * z.q + z.j) z.room.now z.body.now (below_of_lem 256 z.room.now (λ k. (c.slice_known-1.given k).fits)),
      zeros_none (8 * z.q + z.j) z.body.now,
      omega arith,
    )

pub overflow_add-none : goal.overflow_add-none
overflow_add-none c =
    let z = c.args in
    omega (arith, c.copy_field-none.ensures.value, zeros_bits_at (8 * (z.q + c.loop-i.i) + z.j) c.first-k.result z.body.now)

pub loop-i-preserved : goal.loop-i-preserved
loop-i-preserved c =
    let z = c.args in
    let l = c.loop-i in
    let k = c.first-k.result in
    let a : min z.n (8 * l.i) ≡ 8 * l.i = omega arith in
    let b : min z.n (8 * (l.i + 1)) ≡ 8 * l.i + k = omega arith in
    let e : 8 * (z.d + l.i) + 0 ≡ 8 * z.d + 8 * l.i = omega arith in
    let f : 8 * (z.q + l.i) + z.j ≡ 8 * z.q + z.j + 8 * l.i = omega arith in
    let v = rw f at c.copy_field-none.ensures.value in
    rw b (
      c.copy_field-none.ensures.room_after ∙ rw (e, f, rw a at l.invariant.0) (copy_more (8 * z.d) (8 * z.q + z.j) (8 * l.i) k z.room.now z.body.now (omega arith) (omega arith)),
      rw (rw a at l.invariant.1, v) (sym (zeros_add (8 * z.q + z.j) (8 * l.i) k z.body.now)),
      omega (arith, v, zeros_bits_at (8 * z.q + z.j + 8 * l.i) k z.body.now),
    )

pub returns : goal.returns
returns c =
    let z = c.args in
    let l = c.loop-i in
    let e : min z.n (8 * l.i) ≡ z.n = omega arith in
    record { room_after = l.invariant.0 ∙ rw e; value = l.invariant.1 ∙ rw e }
