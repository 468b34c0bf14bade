-- `convert::views::lay` meets its contract: the rest from row i on is the whole. Assumes nothing.
use mathlib.Core.Path.{refl, sym, ◌∙◌}
use Prim.Native.Nat.{◌-◌}
use native.Mathlib.Omega.{arith}
use Rattle.number.proofs.Laws.{encode_mod}
use Rattle.convert.proofs.Laid.{laid_none, laid_step}
use Rattle.convert.proofs.views.lay.Goals as goal

pub loop-i-preserved : goal.loop-i-preserved
loop-i-preserved g c =
    let z = c.args in
    let l = c.loop-i in
    laid_step g.N.Unsigned.SIZE z.body.now z.from z.at z.too z.n l.i l.room (omega arith)
    (c.read-start.ensures ∙ rw c.SIZE.ensures refl)
    (c.read-next.ensures ∙ rw c.SIZE-in-loop-i.ensures refl)
    (c.less-size.ensures ∙ rw (c.to_u64.ensures, c.to_u64-in-loop-i.ensures) refl)
    (c.write.ensures ∙ rw c.SIZE-in-loop-i-2.ensures refl)
    (c.write-in-loop-i.ensures ∙ rw (c.truncate.ensures, encode_mod, c.SIZE-in-loop-i-3.ensures) refl)
    ∙ l.invariant

pub returns : goal.returns
returns g c =
    let z = c.args in
    let l = c.loop-i in
    sym (laid_none g.N.Unsigned.SIZE z.body.now z.from z.at z.too (z.n - l.i) l.i l.room (omega arith)) ∙ l.invariant
