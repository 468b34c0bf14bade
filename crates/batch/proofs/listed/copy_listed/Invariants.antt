use mathlib.Core.Path.{◌≡◌}
use Prim.Native.Nat.{◌+◌, ◌*◌}
use lib.ListN.{take, drop}
use Rattle.number.specs.Number.{entry, splice}
use Rattle.utils.specs.Pieces.{pieces}
use Rattle.batch.specs.Stretch.{sum_of}
use Rattle.batch.proofs.listed.copy_listed.Given as goal

abbrev pub invariant-loop-r : goal.invariant-loop-r
invariant-loop-r l =
    (l.to ≡ l.to-2 + l.v * sum_of (λ q. entry l.w l.body l.sizes (l.slot + q)) l.r)
    × (l.room ≡ splice l.to-2 (pieces (λ j. take (l.v * entry l.w l.body l.sizes (l.slot + j)) (drop (l.at + l.v * entry l.w l.body l.offsets (l.slot + j)) l.body)) l.r) l.initial.room)
