use mathlib.Core.Path.{◌≡◌}
use Prim.Native.Nat.{ℕ, ◌+◌, ◌-◌, ◌≤◌}
use lib.ListN.{get_or}
use Rattle.walk.specs.State.{Join}
use Rattle.reclaim.specs.used_entries.Keys.{rank}
use Rattle.reclaim.specs.reclaim_walk.Walk.{keys_of, run_of}
use Rattle.reclaim.proofs.entry_copies.run_len.Given as goal

abbrev pub invariant-loop-k : goal.invariant-loop-k
invariant-loop-k l =
    (x : Join) (base : ℕ) → ((i : ℕ) → i ≤ l.count → get_or l.ranks i 0 ≡ rank (keys_of x) (base + i)) → l.k + run_of x (base + l.j + l.k) (l.count - (l.j + l.k)) ≡ run_of x (base + l.j) (l.count - l.j)
