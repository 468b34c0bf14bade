use mathlib.Core.Path.{◌≡◌}
use Prim.Native.Nat.{◌+◌}
use Rattle.number.specs.Number.{entry}
use Rattle.walk.specs.State.{grown}
use Rattle.batch.specs.Stretch.{sum_of}
use Rattle.batch.proofs.sizes.add_sizes.Given as goal

abbrev pub invariant-loop-r : goal.invariant-loop-r
invariant-loop-r l = l.sum ≡ grown l.rows (sum_of (λ q. entry l.w l.body l.at (l.slot + q)) l.r)
