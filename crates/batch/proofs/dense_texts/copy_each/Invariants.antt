use mathlib.Core.Path.{◌≡◌}
use Prim.Native.Nat.{ℕ, ◌+◌, ◌-◌, ◌≤◌}
use lib.ListN.{length}
use Rattle.number.specs.Number.{entry}
use Rattle.walk.proofs.Laws.{Rest}
use Rattle.leaf_walk.specs.Join.{join}
use Rattle.batch.specs.Stretch.{stretch, stretches}
use Rattle.batch.specs.Batch.{batch_leaf}
use Rattle.batch.specs.batch_walk.Fall.{home_by, takes_of, takes_from}
use Rattle.batch.proofs.dense_texts.copy_each.Given as goal

abbrev pub invariant-loop-r : goal.invariant-loop-r
invariant-loop-r g l =
    (l.r ≤ l.n) × (length l.room ≡ length l.initial.room) × (l.m ≤ l.r)
    × ((source : ℕ) → Rest l.plan l.parts l.write (stretches (λ b j d. batch_leaf (join l.plan l.parts l.lengths l.places l.body l.first source) l.k b j d) (takes_from (λ q. home_by l.homes l.body (l.ids + (l.slot + q))) (λ q. entry 4 l.body l.positions (l.slot + q)) l.k) (takes_of (λ q. home_by l.homes l.body (l.ids + (l.slot + q))) l.k) l.n l.initial.counters) l.initial.room
    (stretch (λ b j d. batch_leaf (join l.plan l.parts l.lengths l.places l.body l.first source) l.k b j d) (takes_from (λ q. home_by l.homes l.body (l.ids + (l.slot + q))) (λ q. entry 4 l.body l.positions (l.slot + q)) l.k) (takes_of (λ q. home_by l.homes l.body (l.ids + (l.slot + q))) l.k) (l.n - l.r) l.r l.a l.m l.counters) l.room)

abbrev pub decreases-loop-r : goal.decreases-loop-r
decreases-loop-r g l = l.n + 1 - l.r
