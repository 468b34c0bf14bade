use mathlib.Core.Path.{◌≡◌}
use mathlib.Core.Bool.{true}
use Rattle.columnar.specs.Test.{every}
use Rattle.plan.specs.parts.Parts.{apart}
use Rattle.plan.proofs.placed.all_apart.Given as goal

abbrev pub invariant-loop-p : goal.invariant-loop-p
invariant-loop-p l = every (λ r. every (λ q. apart l.parts r q) r) l.p ≡ true
