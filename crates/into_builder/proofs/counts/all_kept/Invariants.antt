use mathlib.Core.Path.{◌≡◌}
use mathlib.Core.Bool.{true}
use Rattle.columnar.specs.Test.{every}
use Rattle.into_builder.specs.counts.Counts.{kept_of}
use Rattle.into_builder.proofs.counts.all_kept.Given as goal

abbrev pub invariant-loop-i : goal.invariant-loop-i
invariant-loop-i l = every (kept_of l.plan l.sources l.lengths l.places l.body) l.i ≡ true
