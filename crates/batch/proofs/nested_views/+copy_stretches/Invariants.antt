use mathlib.Core.Path.{◌≡◌}
use Prim.Native.Nat.{ℕ, suc, ◌+◌, ◌*◌, ◌-◌, ◌≤◌, ◌<◌, ◌^◌}
use lib.ListN.{length}
use Rattle.number.specs.Number.{entry}
use Rattle.walk.specs.State.{place}
use Rattle.walk.proofs.Laws.{Rest}
use Rattle.leaf_walk.specs.Join.{join}
use Rattle.batch.specs.Stretch.{sum_of, stretch, stretches}
use Rattle.batch.specs.Batch.{batch_node, batch_below}
use Rattle.batch.proofs.nested_views.+copy_stretches.Given as goal

abbrev pub decreases-copy_list_view : goal.decreases-copy_list_view
decreases-copy_list_view l = l.depth * 3

abbrev pub decreases-copy_node : goal.decreases-copy_node
decreases-copy_node l = l.depth * 3 + 1

abbrev pub decreases-copy_stretches : goal.decreases-copy_stretches
decreases-copy_stretches l = l.depth * 3 + 2

abbrev pub invariant-copy_stretches-loop-r : goal.invariant-copy_stretches-loop-r
invariant-copy_stretches-loop-r l =
    (l.r ≤ l.n) × (length l.room ≡ length l.initial.room) × (l.m ≤ sum_of (λ q. entry l.w l.body l.sizes (l.slot + q)) l.r) × (sum_of (λ q. entry l.w l.body l.sizes (l.slot + q)) l.n < 2 ^ 63) × (l.offsets + l.w * (l.slot + l.n) ≤ length l.body) × (l.sizes + l.w * (l.slot + l.n) ≤ length l.body)
    × ((source : ℕ) → Rest l.plan l.parts l.write (stretches (λ b k d. batch_node (join l.plan l.parts l.lengths l.places l.body l.first source) (batch_below (join l.plan l.parts l.lengths l.places l.body l.first source) l.depth) (suc l.i) b k d) (λ q. entry l.w l.body (place (join l.plan l.parts l.lengths l.places l.body l.first source) l.i 3) (l.slot + q)) (λ q. entry l.w l.body (place (join l.plan l.parts l.lengths l.places l.body l.first source) l.i 5) (l.slot + q)) l.n l.initial.counters) l.initial.room
    (stretch (λ b k d. batch_node (join l.plan l.parts l.lengths l.places l.body l.first source) (batch_below (join l.plan l.parts l.lengths l.places l.body l.first source) l.depth) (suc l.i) b k d) (λ q. entry l.w l.body l.offsets (l.slot + q)) (λ q. entry l.w l.body l.sizes (l.slot + q)) (l.n - l.r) l.r l.a l.m l.counters) l.room)

abbrev pub decreases-copy_stretches-loop-r : goal.decreases-copy_stretches-loop-r
decreases-copy_stretches-loop-r l = l.n + 1 - l.r
