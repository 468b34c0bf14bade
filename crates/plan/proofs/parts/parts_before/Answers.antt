-- `parts::parts_before` meets its contract. The invariant: the sum is that of the nodes below k. Assumes nothing.
use mathlib.Core.Path.{refl, ap, ◌∙◌}
use native.Mathlib.Omega.{arith}
use Rattle.plan.specs.parts.Parts.{parts_before}
use Rattle.plan.proofs.parts.Laws.{before_one}
use Rattle.plan.proofs.parts.parts_before.Goals as goal

pub loop-k-init : goal.loop-k-init
unfolding parts_before
loop-k-init c = (omega arith, refl)

pub loop-k-preserved : goal.loop-k-preserved
loop-k-preserved c = (omega arith, before_one c.args.plan.now c.loop-k.k _ _ c.loop-k.invariant.1 c.part_count-sum.ensures.value)

pub returns : goal.returns
returns c = record { value = c.loop-k.invariant.1 ∙ ap (parts_before c.args.plan.now) (omega arith); upper_bound = omega arith }
