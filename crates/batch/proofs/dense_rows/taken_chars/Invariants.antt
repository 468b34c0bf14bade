use mathlib.Core.Path.{◌≡◌}
use Prim.Native.Nat.{ℕ, ◌+◌, ◌<◌}
use Rattle.number.specs.Number.{entry}
use Rattle.walk.specs.State.{grown}
use Rattle.batch.specs.Stretch.{sum_of}
use Rattle.batch.specs.batch_walk.Fall.{home_by, takes_of, takes_from}
use Rattle.batch.specs.batch_walk.Texts.{chars_of, Rising}
use Rattle.batch.proofs.dense_rows.taken_chars.Given as goal

abbrev pub invariant-loop-r : goal.invariant-loop-r
invariant-loop-r l =
    ((q : ℕ) → q < l.r → Rising l.v l.body l.at l.most (l.offset + takes_from (λ j. home_by l.homes l.body (l.ids + (l.slot + j))) (λ j. entry 4 l.body l.positions (l.slot + j)) l.k q) (takes_of (λ j. home_by l.homes l.body (l.ids + (l.slot + j))) l.k q))
    × (l.sum ≡ grown 0 (sum_of (λ q. chars_of l.v l.body l.at (l.offset + takes_from (λ j. home_by l.homes l.body (l.ids + (l.slot + j))) (λ j. entry 4 l.body l.positions (l.slot + j)) l.k q) (takes_of (λ j. home_by l.homes l.body (l.ids + (l.slot + j))) l.k q)) l.r))
