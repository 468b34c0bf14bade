use mathlib.Core.Path.{◌≡◌}
use Rattle.columnar.specs.Test.{every}
use Rattle.plan.specs.grounds.Verdict.{verdict}
use Rattle.plan.proofs.grounds.Laws.{within_at, hold_at}
use Rattle.plan.proofs.grounds.parts_ground.Given as goal

abbrev pub invariant-loop-i : goal.invariant-loop-i
invariant-loop-i l = l.g ≡ verdict (every (within_at l.plan l.counters l.parts l.m) l.i) (every (hold_at l.plan l.counters l.parts l.m) l.i)
