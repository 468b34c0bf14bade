-- `bits::append_same` meets its contract. Assumes nothing.
use mathlib.Core.Path.{◌≡◌, sym, ◌∙◌}
use Prim.Native.Nat.{◌+◌, ◌*◌, ◌-◌, ◌/◌, ◌%◌}
use native.Mathlib.Omega.{arith}
use Rattle.bits.proofs.Laws.{below_of_lem}
use Rattle.bits.proofs.Puts.{put_nil}
use Rattle.bits.proofs.Steps.{same_more}
use Rattle.bits.proofs.append_same.Goals as goal

pub returns-then-n-eq0 : goal.returns-then-n-eq0
returns-then-n-eq0 c =
    let z = c.args in
    let e : z.n ≡ 0 = c.if-n-eq0.true in
    rw e (sym (put_nil (8 * z.at + z.b) z.room.now (below_of_lem 256 z.room.now (λ i. (c.slice_known-1.given i).fits))))

pub returns-then-h-eq0 : goal.returns-then-h-eq0
returns-then-h-eq0 c =
    let z = c.args in
    let e : 8 * (z.at + z.b / 8) ≡ 8 * z.at + z.b = omega arith in
    c.append_aligned.ensures ∙ rw e

pub returns-then-k-n : goal.returns-then-k-n
returns-then-k-n c =
    let z = c.args in
    let e : 8 * (z.at + z.b / 8) + z.b % 8 ≡ 8 * z.at + z.b = omega arith in
    let f : c.first-k.result ≡ z.n = c.if-k-n.true in
    c.put.ensures ∙ rw (c.same-x.ensures.1, e, f)

pub returns : goal.returns
returns c =
    let z = c.args in
    let k = c.first-k.result in
    let e : 8 * (z.at + z.b / 8) + z.b % 8 ≡ 8 * z.at + z.b = omega arith in
    let f : 8 * (z.at + z.b / 8 + 1) ≡ 8 * z.at + z.b + k = omega arith in
    let g : k + (z.n - k) ≡ z.n = omega arith in
    c.append_aligned-2.ensures ∙ rw (c.put.ensures, c.same-x.ensures.1, e, f) (rw g at (same_more (8 * z.at + z.b) k (z.n - k) z.v z.room.now (omega arith) (omega arith)))
