use mathlib.Core.Path.{◌≡◌}
use Prim.Native.Nat.{◌+◌}
use Rattle.number.specs.Number.{splice}
use Rattle.utils.specs.Pieces.{numbers}
use Rattle.batch.specs.batch_walk.Fall.{home_by, lands_by}
use Rattle.batch.proofs.batch_walk.Falls.{Landing}
use Rattle.batch.proofs.survey.write_lands.Given as goal

abbrev pub invariant-loop-r : goal.invariant-loop-r
invariant-loop-r l = Landing (λ q. home_by l.homes l.body (l.ids + (l.slot + q))) l.counters l.r l.lands × (l.room ≡ splice l.to (numbers 4 (lands_by (λ q. home_by l.homes l.body (l.ids + (l.slot + q))) l.counters) l.r) l.initial.room)
