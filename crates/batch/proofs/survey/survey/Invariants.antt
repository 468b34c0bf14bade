use mathlib.Core.Path.{◌≡◌}
use mathlib.Core.Bool.{true}
use Prim.Native.Nat.{◌+◌}
use Rattle.number.specs.Number.{entry}
use Rattle.batch.specs.batch_walk.Fall.{home_by, all_land, Fallen}
use Rattle.batch.proofs.survey.survey.Given as goal

abbrev pub invariant-loop-r : goal.invariant-loop-r
invariant-loop-r l = (all_land (λ q. home_by l.homes l.body (l.ids + (l.slot + q))) l.counters l.r ≡ true) × Fallen (λ q. home_by l.homes l.body (l.ids + (l.slot + q))) (λ q. entry 4 l.body l.positions (l.slot + q)) l.n l.r l.whole l.begins l.taken l.ends
