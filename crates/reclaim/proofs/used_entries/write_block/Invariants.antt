use mathlib.Core.Path.{◌≡◌}
use mathlib.Core.List.{List}
use Prim.Native.Nat.{ℕ, ◌+◌, ◌*◌, ◌-◌, ◌≤◌}
use lib.ListN.{length}
use Rattle.number.specs.Number.{splice}
use Rattle.columnar.specs.Row.{seg}
use Rattle.columnar.specs.Entries.{encodes}
use Rattle.reclaim.specs.used_entries.Keys.{keys, new_key}
use Rattle.reclaim.proofs.used_entries.Rewrites.{mixed_key}
use Rattle.reclaim.proofs.used_entries.write_block.Given as goal

abbrev pub invariant-loop-r : goal.invariant-loop-r
invariant-loop-r l =
    (old : List ℕ) → l.to + l.w * l.n ≤ length old → l.initial.room ≡ splice l.to (encodes l.w (seg (new_key (keys l.body l.w l.at l.masked l.mask l.off l.n) l.base) 0 l.n)) old
    → l.room ≡ splice l.to (encodes l.w (seg (mixed_key (keys l.body l.w l.at l.masked l.mask l.off l.n) l.base l.count l.r) 0 l.n)) old
