use mathlib.Core.Path.{◌≡◌}
use Prim.Native.Nat.{◌≤◌}
use Rattle.number.specs.Number.{entry}
use Rattle.run_ends.specs.Lookup.{tally}
use Rattle.run_ends.proofs.tally.Given as goal

abbrev pub invariant-loop-j : goal.invariant-loop-j
invariant-loop-j g l = (l.sum ≡ tally (entry g.N.Unsigned.SIZE l.body l.from) l.row.0 l.base l.j) × (l.sum ≤ l.j)
