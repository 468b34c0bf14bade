use mathlib.Core.Path.{◌≡◌}
use Prim.Native.Nat.{◌+◌, ◌-◌, ◌≤◌}
use lib.ListN.{length}
use Rattle.number.specs.Number.{splice}
use Rattle.reclaim.specs.used_entries.Chosen.{chosen, risen}
use Rattle.reclaim.proofs.entry_writes.write_each.Given as goal

abbrev pub invariant-loop-j : goal.invariant-loop-j
invariant-loop-j l =
    (l.o ≡ l.to + length (chosen l.body l.from l.w (risen l.ranks) l.j)) × (l.room ≡ splice l.to (chosen l.body l.from l.w (risen l.ranks) l.j) l.initial.room)
