use mathlib.Core.Path.{◌≡◌}
use Prim.Native.Nat.{◌+◌, ◌*◌}
use lib.ListN.{take, drop}
use Rattle.number.specs.Number.{entry, splice}
use Rattle.utils.specs.Pieces.{pieces}
use Rattle.batch.specs.Stretch.{sum_of}
use Rattle.batch.specs.batch_walk.Fall.{home_by, takes_of, takes_from}
use Rattle.batch.proofs.gather.copy_taken.Given as goal

abbrev pub invariant-loop-r : goal.invariant-loop-r
invariant-loop-r l =
    (l.to ≡ l.to-2 + l.w * sum_of (takes_of (λ q. home_by l.homes l.body (l.ids + (l.slot + q))) l.k) l.r)
    × (l.room ≡ splice l.to-2 (pieces (λ j. take (l.w * takes_of (λ q. home_by l.homes l.body (l.ids + (l.slot + q))) l.k j) (drop (l.at + l.w * takes_from (λ q. home_by l.homes l.body (l.ids + (l.slot + q))) (λ q. entry 4 l.body l.positions (l.slot + q)) l.k j) l.body)) l.r) l.initial.room)
