use mathlib.Core.Path.{◌≡◌}
use mathlib.Core.Bool.{true}
use Rattle.columnar.specs.Test.{every}
use Rattle.plan.specs.parts.Parts.{apart}
use Rattle.plan.proofs.placed.is_apart.Given as goal

abbrev pub invariant-loop-q : goal.invariant-loop-q
invariant-loop-q l = every (λ r. apart l.parts l.p r) l.q ≡ true
