-- `plan::buffers_up_to` meets its contract. The invariant: the sum over the first t sources. Assumes nothing.
use native.Mathlib.Omega.{arith}
use Rattle.plan.proofs.Laws.{up_to_none, up_to_more, up_to_all}
use Rattle.plan.proofs.buffers_up_to.Goals as goal

pub loop-t-init : goal.loop-t-init
loop-t-init c =
    let z = c.args in
    (omega arith, up_to_none z.places.now z.sources.now z.i)

pub loop-t-preserved : goal.loop-t-preserved
loop-t-preserved c =
    let z = c.args in
    let l = c.loop-t in
    (omega arith, up_to_more z.places.now z.sources.now z.i l.t l.invariant.1 c.node_of-k.ensures.value c.buffers_of-sum.ensures.value)

pub returns : goal.returns
returns c =
    let z = c.args in
    let l = c.loop-t in
    record { value = up_to_all z.places.now z.sources.now z.i z.s l.t (omega arith) l.invariant.1; upper_bound = omega arith }
