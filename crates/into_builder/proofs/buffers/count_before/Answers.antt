-- `buffer_names::count_before` meets its contract. The invariant: the sum over the first i nodes. Assumes nothing.
use mathlib.Core.Path.{sym, ap, ap₂, ◌∙◌}
use Prim.Native.Nat.{◌+◌}
use Rattle.into_builder.specs.buffers.Names.{count_before}
use Rattle.into_builder.proofs.buffers.Names.{before_none, before_more}
use native.Mathlib.Omega.{arith}
use Rattle.into_builder.proofs.buffers.count_before.Goals as goal

pub loop-i-init : goal.loop-i-init
loop-i-init c =
    let z = c.args in
    (omega arith, sym (before_none z.plan.now z.sources.now z.places.now))

pub loop-i-preserved : goal.loop-i-preserved
loop-i-preserved c =
    let z = c.args in
    let l = c.loop-i in
    (omega arith, ap₂ (λ a b. a + b) l.invariant.1 c.count_at-sum.ensures.value ∙ sym (before_more z.plan.now z.sources.now z.places.now l.i))

pub returns : goal.returns
returns c =
    let z = c.args in
    let l = c.loop-i in
    record { value = l.invariant.1 ∙ ap (count_before z.plan.now z.sources.now z.places.now) (omega arith); upper_bound = omega arith }
