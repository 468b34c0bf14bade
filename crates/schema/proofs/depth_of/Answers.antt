-- `schema::depth_of` meets its contract. The invariant: d is one more than the nodes below j whose subtree node i is in. Assumes nothing.
use mathlib.Core.Path.{refl, ◌∙◌}
use mathlib.Core.Logic.{⊎_elim}
use native.Mathlib.Omega.{arith}
use Rattle.schema.proofs.Laws.{depth_in, depth_out, depth_all}
use Rattle.schema.proofs.depth_of.Goals as goal

pub loop-j-init : goal.loop-j-init
loop-j-init c = (omega arith, refl)

pub loop-j-preserved : goal.loop-j-preserved
loop-j-preserved c =
    let z = c.args in
    let l = c.loop-j in
    let e = c.end_of.ensures in
    ⊎_elim
    (λ w. (omega arith, w.d-is ∙ depth_in z.schema.now z.first z.n z.i l.j l.d (omega (arith, w.if-i-end_of.true, e)) l.invariant.1))
    (λ w. (omega arith, w.d-is ∙ depth_out z.schema.now z.first z.n z.i l.j l.d (omega (arith, w.if-i-end_of.false, e)) l.invariant.1))
    c.if-i-end_of.branch-raw

pub returns : goal.returns
returns c =
    let z = c.args in
    let l = c.loop-j in
    depth_all z.schema.now z.first z.n z.i l.j l.d (omega arith) l.invariant.1
