use Rattle.std.proofs.Common.{◌≡◌}
use Rattle.aggregates.specs.fractions.Lowest.{gcd_of}
use Rattle.aggregates.proofs.fractions.gcd.Given as goal

abbrev pub invariant-loop-y : goal.invariant-loop-y
invariant-loop-y l = gcd_of l.x l.y ≡ gcd_of l.a l.b

abbrev pub decreases-loop-y : goal.decreases-loop-y
decreases-loop-y l = l.y
