use mathlib.Core.Path.{◌≡◌}
use Prim.Native.Nat.{◌+◌}
use Rattle.number.specs.Number.{entry, splice}
use Rattle.utils.specs.Pieces.{numbers}
use Rattle.batch.specs.Stretch.{sum_of}
use Rattle.batch.proofs.sizes.write_sums_by.Given as goal

abbrev pub invariant-loop-r : goal.invariant-loop-r
invariant-loop-r l = (l.sum ≡ l.rows + sum_of (λ q. entry l.w l.body l.at (l.slot + q)) l.r) × (l.room ≡ splice l.to (numbers l.w (λ p. l.rows + sum_of (λ q. entry l.w l.body l.at (l.slot + q)) p) l.r) l.initial.room)
