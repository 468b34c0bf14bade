use mathlib.Core.Path.{◌≡◌}
use mathlib.Core.List.{[]}
use Prim.Native.Nat.{◌-◌, ◌≤◌}
use lib.ListN.{length}
use Rattle.walk.proofs.Laws.{Rest}
use Rattle.leaf_walk.specs.Join.{join}
use Rattle.reclaim.specs.used_entries.Keys.{rank}
use Rattle.reclaim.specs.reclaim_walk.Walk.{keys_of, copy_blocks}
use Rattle.reclaim.proofs.entry_copies.copy_entries.Given as goal

abbrev pub invariant-loop-base : goal.invariant-loop-base
invariant-loop-base l =
    (l.base ≤ l.entries) × (length l.room ≡ length l.initial.room) × (l.start ≡ rank (keys_of (join l.plan [] l.lengths l.places l.body l.first 0)) l.base)
    × Rest l.plan l.parts l.write (copy_blocks (join l.plan l.parts l.lengths l.places l.body l.first 0) l.entries 0 l.entries l.initial.counters) l.initial.room (copy_blocks (join l.plan l.parts l.lengths l.places l.body l.first 0) (l.entries - l.base) l.base (l.entries - l.base) l.counters) l.room

abbrev pub decreases-loop-base : goal.decreases-loop-base
decreases-loop-base l = l.entries - l.base
