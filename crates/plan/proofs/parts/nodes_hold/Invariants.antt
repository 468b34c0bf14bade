use mathlib.Core.Path.{◌≡◌}
use mathlib.Core.Bool.{true}
use Rattle.columnar.specs.Test.{every}
use Rattle.plan.specs.parts.Parts.{part_holds}
use Rattle.plan.proofs.parts.nodes_hold.Given as goal

abbrev pub invariant-loop-i : goal.invariant-loop-i
invariant-loop-i l = every (λ k. every (λ b. part_holds l.plan l.counters l.parts k b) 3) l.i ≡ true
