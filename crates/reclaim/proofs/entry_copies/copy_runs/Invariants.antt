use mathlib.Core.Path.{◌≡◌}
use Prim.Native.Nat.{◌+◌, ◌-◌, ◌≤◌}
use lib.ListN.{length}
use Rattle.walk.proofs.Laws.{Rest}
use Rattle.leaf_walk.specs.Join.{join}
use Rattle.reclaim.specs.reclaim_walk.Walk.{copy_runs}
use Rattle.reclaim.proofs.entry_copies.copy_runs.Given as goal

abbrev pub invariant-loop-j : goal.invariant-loop-j
invariant-loop-j l =
    (l.j ≤ l.count) × (length l.room ≡ length l.initial.room)
    × Rest l.plan l.parts l.write (copy_runs (join l.plan l.parts l.lengths l.places l.body l.first 0) l.count l.base l.count l.initial.counters) l.initial.room (copy_runs (join l.plan l.parts l.lengths l.places l.body l.first 0) (l.count - l.j) (l.base + l.j) (l.count - l.j) l.counters) l.room

abbrev pub decreases-loop-j : goal.decreases-loop-j
decreases-loop-j l = l.count - l.j
