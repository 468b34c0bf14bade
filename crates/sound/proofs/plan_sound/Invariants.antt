use mathlib.Core.Path.{◌≡◌}
use mathlib.Core.Bool.{true}
use Rattle.columnar.specs.Test.{every}
use Rattle.refinement.specs.orders.Sound.{node_sound}
use Rattle.sound.proofs.plan_sound.Given as goal

abbrev pub invariant-loop-i : goal.invariant-loop-i
invariant-loop-i l = every (node_sound l.plan l.n) l.i ≡ true
