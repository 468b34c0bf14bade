use mathlib.Core.Path.{◌≡◌}
use mathlib.Core.Bool.{cond}
use Prim.Native.Nat.{ℕ, ◌+◌, ◌-◌, ◌≤◌, ◌<◌}
use lib.ListN.{length, get_or}
use Rattle.anew.specs.entries.Used.{some_below}
use Rattle.reclaim.specs.used_entries.Keys.{keys, names}
use Rattle.reclaim.proofs.used_entries.marks_of.Given as goal

abbrev pub invariant-loop-r : goal.invariant-loop-r
invariant-loop-r l =
    (length l.marks ≡ 513) × ((j : ℕ) → j < l.count → get_or l.marks j 0 ≡ cond (some_below (names (keys l.body l.w l.at l.masked l.mask l.off l.n) (l.base + j)) l.r) 1 0)
