use mathlib.Core.Path.{◌≡◌}
use Prim.Native.Nat.{◌+◌}
use Rattle.number.specs.Number.{entry}
use Rattle.batch.specs.batch_walk.Side.{furthest_of}
use Rattle.batch.proofs.sizes.furthest_by.Given as goal

abbrev pub invariant-loop-r : goal.invariant-loop-r
invariant-loop-r l = l.most ≡ furthest_of (λ q. entry l.w l.body l.offsets (l.slot + q) + entry l.w l.body l.sizes (l.slot + q)) l.r
