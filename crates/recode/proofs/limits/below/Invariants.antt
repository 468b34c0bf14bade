use Rattle.std.proofs.Common.{◌≡◌, true}
use Rattle.recode.specs.Recode.{all_below}
use Rattle.recode.proofs.limits.below.Given as goal

abbrev pub invariant-loop-i : goal.invariant-loop-i
invariant-loop-i g l = true ≡ all_below g.N.Unsigned.SIZE l.body l.from l.limit l.i
