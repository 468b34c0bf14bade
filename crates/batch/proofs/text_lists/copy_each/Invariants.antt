use mathlib.Core.Path.{◌≡◌}
use Prim.Native.Nat.{ℕ, suc, ◌+◌, ◌*◌, ◌-◌, ◌≤◌, ◌<◌, ◌^◌}
use lib.ListN.{length}
use Rattle.number.specs.Number.{entry}
use Rattle.walk.specs.State.{place}
use Rattle.walk.proofs.Laws.{Rest}
use Rattle.leaf_walk.specs.Join.{join}
use Rattle.batch.specs.Stretch.{sum_of, stretch, stretches}
use Rattle.batch.specs.Batch.{batch_leaf}
use Rattle.batch.proofs.text_lists.copy_each.Given as goal

abbrev pub invariant-loop-r : goal.invariant-loop-r
invariant-loop-r g l =
    (l.r ≤ l.n) × (length l.room ≡ length l.initial.room) × (l.m ≤ sum_of (λ q. entry l.w l.body l.sizes (l.slot + q)) l.r) × (sum_of (λ q. entry l.w l.body l.sizes (l.slot + q)) l.n < 2 ^ 63) × (l.offsets + l.w * (l.slot + l.n) ≤ length l.body) × (l.sizes + l.w * (l.slot + l.n) ≤ length l.body)
    × ((source : ℕ) → Rest l.plan l.parts l.write (stretches (λ b k d. batch_leaf (join l.plan l.parts l.lengths l.places l.body l.first source) (suc l.i) b k d) (λ q. entry l.w l.body (place (join l.plan l.parts l.lengths l.places l.body l.first source) l.i 3) (l.slot + q)) (λ q. entry l.w l.body (place (join l.plan l.parts l.lengths l.places l.body l.first source) l.i 5) (l.slot + q)) l.n l.initial.counters) l.initial.room
    (stretch (λ b k d. batch_leaf (join l.plan l.parts l.lengths l.places l.body l.first source) (suc l.i) b k d) (λ q. entry l.w l.body l.offsets (l.slot + q)) (λ q. entry l.w l.body l.sizes (l.slot + q)) (l.n - l.r) l.r l.a l.m l.counters) l.room)

abbrev pub decreases-loop-r : goal.decreases-loop-r
decreases-loop-r g l = l.n + 1 - l.r
