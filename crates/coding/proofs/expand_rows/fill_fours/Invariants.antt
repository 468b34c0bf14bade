use Prim.Native.Nat.{◌-◌}
use Rattle.coding.proofs.Fours.{Filled}
use Rattle.coding.proofs.expand_rows.fill_fours.Given as goal

abbrev pub invariant-loop-i : goal.invariant-loop-i
invariant-loop-i g l = Filled l.initial.room l.at g.N.Unsigned.SIZE l.n l.v l.room l.i

abbrev pub decreases-loop-i : goal.decreases-loop-i
decreases-loop-i g l = l.n - l.i
