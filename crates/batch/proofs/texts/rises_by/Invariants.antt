use mathlib.Core.Path.{◌≡◌}
use mathlib.Core.Bool.{true}
use Rattle.number.specs.Number.{entry}
use Rattle.batch.specs.Stretch.{never_falls}
use Rattle.batch.proofs.texts.rises_by.Given as goal

abbrev pub invariant-loop-r : goal.invariant-loop-r
invariant-loop-r l = (l.before ≡ entry l.w l.body l.from l.r) × (true ≡ never_falls l.w l.body l.from l.r)
