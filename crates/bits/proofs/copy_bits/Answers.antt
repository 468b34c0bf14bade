-- `bits::copy_bits` meets its contract. Assumes nothing.
use mathlib.Core.Path.{◌≡◌, sym, ◌∙◌}
use Prim.Native.Nat.{◌+◌, ◌*◌, ◌-◌, ◌/◌, ◌%◌}
use native.Mathlib.Omega.{arith}
use Rattle.bits.proofs.Laws.{below_of_lem}
use Rattle.bits.proofs.Puts.{zeros_add, zeros_bits_at}
use Rattle.bits.proofs.Steps.{copy_none, zeros_none, copy_more}
use Rattle.bits.proofs.copy_bits.Goals as goal

pub returns-then-n-eq0 : goal.returns-then-n-eq0
returns-then-n-eq0 c =
    let z = c.args in
    let e : z.n ≡ 0 = c.if-n-eq0.true in
    rw e (record { room_after = copy_none (8 * z.at + z.b) (8 * z.from + z.a) z.room.now z.body.now (below_of_lem 256 z.room.now (λ i. (c.slice_known-1.given i).fits)); value = zeros_none (8 * z.from + z.a) z.body.now })

pub returns-then-h-eq0 : goal.returns-then-h-eq0
returns-then-h-eq0 c =
    let z = c.args in
    let e : 8 * (z.at + z.b / 8) ≡ 8 * z.at + z.b = omega arith in
    let f : 8 * (z.from + z.a / 8) + z.a % 8 ≡ 8 * z.from + z.a = omega arith in
    record { room_after = c.copy_aligned.ensures.room_after ∙ rw (e, f); value = c.copy_aligned.ensures.value ∙ rw f }

pub returns-then-k-n : goal.returns-then-k-n
returns-then-k-n c =
    let z = c.args in
    let e : 8 * (z.at + z.b / 8) + z.b % 8 ≡ 8 * z.at + z.b = omega arith in
    let f : 8 * (z.from + z.a / 8) + z.a % 8 ≡ 8 * z.from + z.a = omega arith in
    let g : c.first-k.result ≡ z.n = c.if-k-n.true in
    record { room_after = c.copy_field-head.ensures.room_after ∙ rw (e, f, g); value = c.copy_field-head.ensures.value ∙ rw (f, g) }

pub overflow_add-result : goal.overflow_add-result
overflow_add-result c =
    let z = c.args in
    let k = c.first-k.result in
    omega (arith, zeros_bits_at (8 * (z.from + z.a / 8) + z.a % 8) k z.body.now, zeros_bits_at (8 * (z.from + z.a / 8 + (z.a % 8 + k) / 8) + (z.a % 8 + k) % 8) (z.n - k) z.body.now, c.copy_field-head.ensures.value, c.copy_aligned-rest.ensures.value)

pub returns : goal.returns
returns c =
    let z = c.args in
    let k = c.first-k.result in
    let e : 8 * (z.at + z.b / 8) + z.b % 8 ≡ 8 * z.at + z.b = omega arith in
    let d : 8 * (z.at + z.b / 8 + 1) ≡ 8 * z.at + z.b + k = omega arith in
    let f : 8 * (z.from + z.a / 8) + z.a % 8 ≡ 8 * z.from + z.a = omega arith in
    let h : 8 * (z.from + z.a / 8 + (z.a % 8 + k) / 8) + (z.a % 8 + k) % 8 ≡ 8 * z.from + z.a + k = omega arith in
    let g : k + (z.n - k) ≡ z.n = omega arith in record { room_after = c.copy_aligned-rest.ensures.room_after ∙ rw (c.copy_field-head.ensures.room_after, e, f, d, h) (rw g at (copy_more (8 * z.at + z.b) (8 * z.from + z.a) k (z.n - k) z.room.now z.body.now (omega arith) (omega arith))); value = rw (c.copy_field-head.ensures.value, c.copy_aligned-rest.ensures.value, f, h) (rw g at (sym (zeros_add (8 * z.from + z.a) k (z.n - k) z.body.now))) }
