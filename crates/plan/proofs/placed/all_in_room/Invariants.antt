use mathlib.Core.Path.{◌≡◌}
use mathlib.Core.Bool.{true}
use Rattle.columnar.specs.Test.{every}
use Rattle.plan.specs.parts.Parts.{in_room}
use Rattle.plan.proofs.placed.all_in_room.Given as goal

abbrev pub invariant-loop-p : goal.invariant-loop-p
invariant-loop-p l = every (in_room l.parts l.m) l.p ≡ true
