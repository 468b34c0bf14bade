use mathlib.Core.Path.{◌≡◌}
use mathlib.Core.List.{List}
use Prim.Native.Nat.{ℕ, ◌+◌, ◌*◌, ◌-◌, ◌≤◌}
use lib.ListN.{length}
use Rattle.number.specs.Number.{splice}
use Rattle.columnar.specs.Row.{seg}
use Rattle.columnar.specs.Entries.{encodes}
use Rattle.reclaim.specs.used_entries.Keys.{keys, rank, new_key}
use Rattle.reclaim.proofs.used_entries.write_keys.Given as goal

abbrev pub invariant-loop-base : goal.invariant-loop-base
invariant-loop-base l =
    (l.base ≤ l.entries) × (length l.room ≡ length l.initial.room) × (l.start ≡ rank (keys l.body l.w l.at l.masked l.mask l.off l.n) l.base)
    × ((old : List ℕ) → l.to + l.w * l.n ≤ length old → l.initial.room ≡ splice l.to (encodes l.w (seg (new_key (keys l.body l.w l.at l.masked l.mask l.off l.n) 0) 0 l.n)) old
    → l.room ≡ splice l.to (encodes l.w (seg (new_key (keys l.body l.w l.at l.masked l.mask l.off l.n) l.base) 0 l.n)) old)

abbrev pub decreases-loop-base : goal.decreases-loop-base
decreases-loop-base l = l.entries - l.base
