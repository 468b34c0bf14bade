use mathlib.Core.Path.{◌≡◌}
use mathlib.Core.Bool.{true}
use Rattle.columnar.specs.Test.{every}
use Rattle.plan.specs.parts.Parts.{part_within}
use Rattle.plan.proofs.parts.parts_within.Given as goal

abbrev pub invariant-loop-i : goal.invariant-loop-i
invariant-loop-i l = every (λ k. every (λ b. part_within l.plan l.parts l.m k b) 3) l.i ≡ true
