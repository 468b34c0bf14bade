use mathlib.Core.Path.{◌≡◌}
use Rattle.plan.specs.Plan.{holder}
use Rattle.plan.proofs.parent_of.Given as goal

abbrev pub invariant-loop-p : goal.invariant-loop-p
invariant-loop-p l = holder l.plan l.p l.i ≡ holder l.plan l.i l.i
