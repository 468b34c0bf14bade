-- `bits::append_aligned` meets its contract. Assumes nothing.
use mathlib.Core.Path.{◌≡◌, ◌∙◌}
use Prim.Native.Nat.{◌+◌, ◌*◌, ◌/◌, ◌%◌}
use native.Mathlib.Omega.{arith}
use lib.ListN.{replicate}
use Rattle.bits.specs.Bits.{put_bits}
use Rattle.bits.proofs.Laws.{below_of_lem}
use Rattle.bits.proofs.Steps.{fill_is, same_more}
use Rattle.bits.proofs.append_aligned.Goals as goal

pub returns-then-k-eq0 : goal.returns-then-k-eq0
returns-then-k-eq0 c =
    let z = c.args in
    let e : 8 * (z.n / 8) ≡ z.n = omega arith in
    c.fill_bytes.ensures ∙ rw e at (fill_is z.d (z.n / 8) z.v z.room.now (below_of_lem 256 z.room.now (λ i. (c.slice_known-1.given i).fits)) (omega arith))

pub returns : goal.returns
returns c =
    let z = c.args in
    let m = z.n / 8 in
    let f : c.fill_bytes.new.room ≡ put_bits (8 * z.d) (replicate (8 * m) z.v) z.room.now
    = c.fill_bytes.ensures ∙ fill_is z.d m z.v z.room.now (below_of_lem 256 z.room.now (λ i. (c.slice_known-1.given i).fits)) (omega arith) in
    let e : 8 * (z.d + m) + 0 ≡ 8 * z.d + 8 * m = omega arith in
    let g : 8 * m + z.n % 8 ≡ z.n = omega arith in
    c.put.ensures ∙ rw (c.same-x.ensures.1, f, e) (rw g at (same_more (8 * z.d) (8 * m) (z.n % 8) z.v z.room.now (omega arith) (omega arith)))
