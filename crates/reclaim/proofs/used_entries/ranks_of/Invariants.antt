use mathlib.Core.Path.{◌≡◌}
use Prim.Native.Nat.{ℕ, ◌+◌, ◌-◌, ◌≤◌}
use lib.ListN.{length, get_or}
use Rattle.reclaim.specs.used_entries.Keys.{keys, rank}
use Rattle.reclaim.proofs.used_entries.ranks_of.Given as goal

abbrev pub invariant-loop-j : goal.invariant-loop-j
invariant-loop-j l =
    (length l.ranks ≡ 513) × ((i : ℕ) → i ≤ l.j → get_or l.ranks i 0 ≡ rank (keys l.body l.w l.at l.masked l.mask l.off l.n) (l.base + i))
